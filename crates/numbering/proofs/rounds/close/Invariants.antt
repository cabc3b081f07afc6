use Rattle.std.proofs.Common.{◌≡◌, ◌<◌, ◌≤◌, ℕ, slice_index}
use Rattle.numbering.specs.Rounds.{Closed}
use Rattle.numbering.proofs.rounds.close.Given as goal

abbrev pub invariant-loop-item : goal.invariant-loop-item
invariant-loop-item l =
    ((i : ℕ) → i < l.item → Closed l.rounds l.initial.numbers l.numbers i)
    × ((i : ℕ) → l.item ≤ i → slice_index l.numbers i ≡ slice_index l.initial.numbers i)
