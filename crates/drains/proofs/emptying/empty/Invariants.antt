use Rattle.std.proofs.Common.{slice_index}
use Rattle.drains.proofs.Sweeping.{Sweep}
use Rattle.drains.proofs.emptying.empty.Given as goal

abbrev pub invariant-loop-number : goal.invariant-loop-number
invariant-loop-number g l = Sweep (g.N.Network.meaning l.net) (slice_index l.numbers) l.fn.load l.load l.number 0 l.calls

abbrev pub invariant-loop-channel : goal.invariant-loop-channel
invariant-loop-channel g l = Sweep (g.N.Network.meaning l.net) (slice_index l.numbers) l.fn.load l.load l.number l.channel l.calls
