use Rattle.std.proofs.Common.{slice_index}
use Rattle.numbering.proofs.Looking.{Least}
use Rattle.numbering.proofs.walks.look_at_slot.Given as goal

abbrev pub invariant-loop-way : goal.invariant-loop-way
invariant-loop-way g l = Least (slice_index l.numbers) l.yielded l.least
