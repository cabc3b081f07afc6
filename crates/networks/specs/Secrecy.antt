-- Secrecy of work areas.
use Rattle.std.specs.Prelude.{◌≡◌, ℕ, List, length}

-- `Leaves` tells of the words that a work area held before a call what the call may leave: its answer, and what then stands in the lent
-- buffers, the work area among them. Two calls that differ in nothing but these words leave the same.
abbrev pub Secret : {Left : Type 0} → (List ℕ → Left → Type 0) → Type 0
Secret {Left} Leaves = (held other : List ℕ) (x y : Left) → length held ≡ length other → Leaves held x → Leaves other y → x ≡ y
