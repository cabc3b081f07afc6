use Rattle.networks.specs.Allowed.{said}
use Rattle.numbering.specs.Walks.{WalkingAt, steps_left}
use Rattle.numbering.proofs.walks.number_by_walks.Given as goal

abbrev pub invariant-loop-walk : goal.invariant-loop-walk
invariant-loop-walk g l = WalkingAt (g.S.ReleaseSystem.meaning l.system (said l.allowed)) l.numbers l.path l.walk

abbrev pub decreases-loop-walk : goal.decreases-loop-walk
decreases-loop-walk g l = steps_left (g.S.ReleaseSystem.meaning l.system (said l.allowed)) l.numbers l.walk
