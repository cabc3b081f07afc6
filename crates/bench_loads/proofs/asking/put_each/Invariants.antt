use Rattle.std.proofs.Common.{take}
use Rattle.bench_loads.specs.Told.{PutEach}
use Rattle.bench_loads.proofs.asking.put_each.Given as goal

abbrev pub invariant-loop-words : goal.invariant-loop-words
invariant-loop-words g l = PutEach (g.N.Network.meaning l.net) (take l.words-index l.pairs) l.initial.load l.load l.accepted
