use Rattle.std.proofs.Common.{ℕ, ◌<◌}
use Rattle.judges.specs.Judgements.{Loose}
use Rattle.judges.proofs.packets.lowest_loose.Given as goal

abbrev pub invariant-loop-channel : goal.invariant-loop-channel
invariant-loop-channel g l = (c d : ℕ) → c < l.channel → Loose (g.N.Network.meaning l.net) l.load c d → ⊥
