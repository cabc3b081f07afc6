use Rattle.std.proofs.Common.{slice_index}
use Rattle.certificates.specs.Promises.{cost_of_load}
use Rattle.drains.proofs.Walking.{Walk}
use Rattle.drains.proofs.emptying.bring_home.Given as goal

abbrev pub invariant-loop-place : goal.invariant-loop-place
invariant-loop-place g l = Walk (g.N.Network.meaning l.net) (slice_index l.numbers) l.initial.load l.load l.channel l.here l.calls

abbrev pub decreases-loop-place : goal.decreases-loop-place
decreases-loop-place g l = cost_of_load (λ c d. slice_index l.numbers c) (g.N.Network.meaning l.net) l.load
