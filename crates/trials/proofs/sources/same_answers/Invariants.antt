-- The pairs of the channels before, and of this channel those of the places before, have the same answers.
use Rattle.std.proofs.Common.{ℕ, ◌<◌, ◌≤◌}
use Rattle.trials.specs.Alike.{AlikeAt}
use Rattle.trials.proofs.sources.same_answers.Given as goal

abbrev pub invariant-loop-channel : goal.invariant-loop-channel
invariant-loop-channel g l =
    (c d : ℕ) → c < l.channel → d ≤ (g.A.Network.meaning l.a).places
    → AlikeAt (g.A.Network.meaning l.a) (g.B.Network.meaning l.b) c d

abbrev pub invariant-loop-place : goal.invariant-loop-place
invariant-loop-place g l =
    (d : ℕ) → d < l.place → AlikeAt (g.A.Network.meaning l.a) (g.B.Network.meaning l.b) l.channel d
