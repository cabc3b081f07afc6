use Rattle.std.proofs.Common.{◌≡◌, ◌<◌, ℕ, slice_index}
use Rattle.numbering.specs.Numbers.{held_number}
use Rattle.numbering.proofs.rounds.open_all.Given as goal

abbrev pub invariant-loop-item : goal.invariant-loop-item
invariant-loop-item l = (i : ℕ) → i < l.item → (slice_index l.numbers i ≡ held_number) × (slice_index l.list i ≡ i)
