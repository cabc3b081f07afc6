use Rattle.std.proofs.Common.{◌≡◌, slice_index, rules, arith}
use Rattle.networks.specs.Allowed.{said}
use Rattle.escapes.specs.Escaping.{escape}
use Rattle.checks.proofs.OurLoad.{written_more, beyond_more}
use Rattle.checks.proofs.write_load.Goals as goal

pub loop-channel-preserved : goal.loop-channel-preserved
loop-channel-preserved g c =
    let at : c.from.result ≡ c.loop-channel.channel = search rules in (
      written_more (escape (g.N.Network.meaning c.args.net.now) (said c.args.allowed.now)) (slice_index c.args.numbers.now) c.loop-channel.load c.our_record.result c.loop-channel.channel c.from.result at (omega arith) c.loop-channel.invariant.0 c.our_record.ensures,
      beyond_more c.loop-channel.load c.args.load.now c.our_record.result c.loop-channel.channel c.from.result at c.loop-channel.invariant.1,
    )
