use Rattle.crossings.specs.Crossing.{Standing}
use Rattle.crossings.proofs.tell_stands.Given as goal

abbrev pub invariant-loop-channel : goal.invariant-loop-channel
invariant-loop-channel l = Standing l.channel l.load l.initial.stands l.stands
