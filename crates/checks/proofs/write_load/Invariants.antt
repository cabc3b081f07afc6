use Rattle.std.proofs.Common.{◌≡◌, ℕ, ◌<◌, ◌≤◌, slice_get, slice_index}
use Rattle.networks.specs.Allowed.{said}
use Rattle.escapes.specs.Escaping.{escape}
use Rattle.loads.specs.Loads.{packet}
use Rattle.checks.specs.Checks.{OurPacket}
use Rattle.checks.proofs.write_load.Given as goal

abbrev pub invariant-loop-channel : goal.invariant-loop-channel
invariant-loop-channel g l =
    let n = g.N.Network.meaning l.net in
    ((c : ℕ) → c < l.channel → OurPacket (escape n (said l.allowed)) (slice_index l.numbers) c (packet l.load c))
    × ((k : ℕ) → l.channel ≤ k → slice_get l.load k ≡ slice_get l.initial.load k)
