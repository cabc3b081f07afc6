use Rattle.std.proofs.Common.{ℕ, ◌<◌, slice_index}
use Rattle.judges.specs.Judgements.{NoSmaller}
use Rattle.judges.proofs.needs.lowest_need.Given as goal

abbrev pub invariant-loop-channel : goal.invariant-loop-channel
invariant-loop-channel g l = (c d : ℕ) → c < l.channel → NoSmaller (g.N.Network.meaning l.net) (slice_index l.numbers) c d → ⊥
