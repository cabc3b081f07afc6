use Rattle.std.proofs.Common.{◌≡◌, arith, rules}
use Rattle.networks.specs.Allowed.{Allowed, position}
use Rattle.tracing.proofs.Positions.{allowed_below}
use Rattle.tracing.proofs.Queueing.{way_allowed, sound_mark, grown_both, all_marked_more}
use Rattle.tracing.proofs.Marks.follow_ways.Goals as goal

pub mark-requires : goal.mark-requires
mark-requires g c =
    let n = g.N.Network.meaning c.args.net.now in
    let ok = g.N.Network.conditions c.args.net.now in
    let a : Allowed n c.in-Some.channel c.args.pair.place = way_allowed c.requires.allowed c.requires.away {all = c.into_iter-channel-iterator.result} c.next.new.self (search rules) c.loop-channel.yielded c.loop-channel.yielded_by c.in-Some.ensures.steps in
    let i : c.position.result ≡ position n c.in-Some.channel c.args.pair.place = search rules in
    omega (arith, allowed_below n ok a, c.loop-channel.invariant.0.bytes)

pub loop-channel-preserved : goal.loop-channel-preserved
loop-channel-preserved g c =
    let n = g.N.Network.meaning c.args.net.now in
    let ok = g.N.Network.conditions c.args.net.now in
    let a : Allowed n c.in-Some.channel c.args.pair.place = way_allowed c.requires.allowed c.requires.away {all = c.into_iter-channel-iterator.result} c.next.new.self (search rules) c.loop-channel.yielded c.loop-channel.yielded_by c.in-Some.ensures.steps in
    let x = c.loop-channel.invariant in
    let m = c.mark.ensures in
    let s = sound_mark ok x.0 a (search rules) m.grown in
    (s.0, grown_both x.1 m.grown, all_marked_more n c.loop-channel.self c.mark.new.self c.loop-channel.yielded c.in-Some.channel c.args.pair.place x.2 m.grown s.1)
