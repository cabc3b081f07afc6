use Rattle.std.proofs.Common.{slice_index}
use Rattle.networks.specs.Allowed.{said}
use Rattle.numbering.proofs.Looking.{Greatest}
use Rattle.numbering.proofs.walks.look_at_item.Given as goal

abbrev pub invariant-loop-slot : goal.invariant-loop-slot
invariant-loop-slot g l = Greatest (g.S.ReleaseSystem.meaning l.system (said l.allowed)) (slice_index l.numbers) l.item l.slot l.number
