use Rattle.std.proofs.Common.{◌≡◌, true, rules, arith}
use Rattle.networks.specs.Allowed.{enters}
use Rattle.tracing.proofs.Queueing.{sound_mark, entered_more, entered_past}
use Rattle.tracing.proofs.Marks.enter.Goals as goal

pub loop-place-preserved : goal.loop-place-preserved
loop-place-preserved g c =
    let n = g.N.Network.meaning c.args.net.now in
    let ok = g.N.Network.conditions c.args.net.now in
    let i = c.loop-place.invariant.0 in
    let f = c.in-Some.ensures in
    let e : n.entry c.loop-channel.channel c.in-Some.place ≡ true = f.2 in
    let x = entered_past ok c.loop-place.self c.loop-channel.channel c.loop-place.from c.in-Some.place (omega (arith, f.1)) f.3 i.1 in
    let s = sound_mark ok i.0 (enters e) (search rules) c.mark.ensures.grown in
    ((s.0, entered_more ok c.loop-place.self c.mark.new.self c.loop-channel.channel c.in-Some.place f.1 x c.mark.ensures.grown.keeps (λ _. s.1), search rules, search rules), omega (arith, f.1))

pub loop-channel-preserved : goal.loop-channel-preserved
loop-channel-preserved g c =
    let n = g.N.Network.meaning c.args.net.now in
    let i = c.loop-place.invariant.0 in
    let x = entered_past (g.N.Network.conditions c.args.net.now) c.loop-place.self c.loop-channel.channel c.loop-place.from n.places (omega arith) c.in_default.ensures i.1 in
    (i.0, (λ k h. x k (omega arith)), search rules, i.3)
