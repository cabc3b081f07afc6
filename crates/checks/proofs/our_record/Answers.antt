use Rattle.std.proofs.Common.{rules}
use Rattle.networks.specs.Allowed.{said}
use Rattle.escapes.specs.Escaping.{escape_conditions}
use Rattle.checks.proofs.OurLoad.{our_packet, record_holds}
use Rattle.checks.proofs.our_record.Goals as goal

pub returns : goal.returns
returns g c =
    rw (record_holds c.lowest_shut-place.result c.map_or.result c.map_or.ensures)
    (our_packet (escape_conditions (g.N.Network.meaning c.args.net.now) (said c.args.allowed.now) (g.N.Network.conditions c.args.net.now)) c.requires.numbered c.requires.below c.args.channel c.requires.channel (search rules) c.lowest_shut-place.result c.lowest_shut-place.ensures)
