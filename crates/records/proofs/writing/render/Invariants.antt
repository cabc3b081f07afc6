use Rattle.std.proofs.Common.{◌≡◌, ◌+◌, ◌*◌, ◌≤◌, ◌∷◌, take}
use Rattle.arrayvec.specs.ArrayVec.{array_vec_len}
use Rattle.records.specs.Rendering.{numbers_text}
use Rattle.records.proofs.writing.render.Given as goal

abbrev pub invariant-loop-n : goal.invariant-loop-n
invariant-loop-n l =
    (l.line.items ≡ l.letter ∷ numbers_text (take l.n-index l.numbers)) × (array_vec_len l.line ≤ 1 + 6 * l.n-index)
