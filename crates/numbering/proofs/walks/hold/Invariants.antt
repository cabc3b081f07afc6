use Rattle.std.proofs.Common.{slice_index}
use Rattle.numbering.specs.Walks.{AllHeld}
use Rattle.numbering.proofs.walks.hold.Given as goal

abbrev pub invariant-loop-item : goal.invariant-loop-item
invariant-loop-item l = AllHeld (slice_index l.initial.numbers) (slice_index l.numbers) l.items l.item-index
