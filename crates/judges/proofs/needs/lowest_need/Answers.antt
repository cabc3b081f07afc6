use Rattle.std.proofs.Common.{rules, slice_index}
use Rattle.judges.proofs.NeedSearch.{none_past}
use Rattle.judges.proofs.needs.lowest_need.Goals as goal

pub returns : goal.returns
returns g c =
    none_past (g.N.Network.conditions c.args.net.now) (slice_index c.args.numbers.now) c.loop-channel.channel (search rules) c.loop-channel.invariant
