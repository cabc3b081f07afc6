use Rattle.std.proofs.Common.{◌≡◌, ◌+◌, ◌*◌, ◌≤◌, length, drop}
use Rattle.records.specs.Rendering.{numbers_text}
use Rattle.records.proofs.writing.line_len.Given as goal

abbrev pub invariant-loop-n : goal.invariant-loop-n
invariant-loop-n l = (l.len + length (numbers_text (drop l.n-index l.numbers)) ≡ length (numbers_text l.numbers) + 2) × (l.len ≤ 2 + 6 * l.n-index)
