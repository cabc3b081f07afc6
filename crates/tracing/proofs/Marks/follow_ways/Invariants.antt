use Rattle.tracing.specs.Queues.{Sound, Grown, AllMarked}
use Rattle.tracing.proofs.Marks.follow_ways.Given as goal

abbrev pub invariant-loop-channel : goal.invariant-loop-channel
invariant-loop-channel g l =
    Sound (g.N.Network.meaning l.net) l.self × Grown l.initial.self l.self × AllMarked (g.N.Network.meaning l.net) l.self l.yielded l.pair.place
