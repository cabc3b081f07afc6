use Rattle.std.proofs.Common.{◌-◌}
use Rattle.networks.specs.Allowed.{pairs}
use Rattle.tracing.specs.Queues.{SameLent, Followed}
use Rattle.tracing.proofs.Marks.follow.Given as goal

abbrev pub invariant-loop-position : goal.invariant-loop-position
invariant-loop-position g l = Followed (g.N.Network.meaning l.net) l.self × SameLent l.initial.self l.self

abbrev pub decreases-loop-position : goal.decreases-loop-position
decreases-loop-position g l = pairs (g.N.Network.meaning l.net) - l.self.head
