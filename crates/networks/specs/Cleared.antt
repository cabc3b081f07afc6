-- Work areas.
use Rattle.std.specs.Prelude.{◌≡◌, ℕ, ◌<◌, List, length, slice_index}

-- every word is 0, to the last
abbrev pub AllZero : List ℕ → Type 0
AllZero words = (k : ℕ) → k < length words → slice_index words k ≡ 0
