use Rattle.std.proofs.Common.{◌≡◌, ◌-◌, ◌≤◌}
use Rattle.networks.specs.Allowed.{position}
use Rattle.tracing.specs.Queues.{Sound, SameLent, Entered}
use Rattle.tracing.proofs.Marks.enter.Given as goal

abbrev pub invariant-loop-channel : goal.invariant-loop-channel
invariant-loop-channel g l =
    let n = g.N.Network.meaning l.net in
    Sound n l.self × Entered n l.self (position n l.channel 0) × SameLent l.initial.self l.self × (l.self.head ≡ 0)

abbrev pub invariant-loop-place : goal.invariant-loop-place
invariant-loop-place g l =
    let n = g.N.Network.meaning l.net in
    (Sound n l.self × Entered n l.self (position n l.channel l.from) × SameLent l.initial.self l.self × (l.self.head ≡ 0)) × (l.from ≤ n.places)

abbrev pub decreases-loop-place : goal.decreases-loop-place
decreases-loop-place g l = (g.N.Network.meaning l.net).places - l.from
