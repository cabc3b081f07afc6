use Rattle.std.proofs.Common.{◌≡◌, ◌<◌, ◌≤◌, ℕ, length, slice_index}
use Rattle.numbering.specs.Walks.{forced}
use Rattle.numbering.proofs.walks.circle.Given as goal

abbrev pub invariant-loop-position : goal.invariant-loop-position
invariant-loop-position l = (p : ℕ) → l.position ≤ p → p < length l.path → slice_index l.numbers (slice_index l.path p) ≡ forced
