use Rattle.std.proofs.Common.{◌≡◌, ◌/◌, ◌%◌, rules}
use Rattle.tracing.proofs.Queueing.{followed_more}
use Rattle.tracing.proofs.Marks.follow.Goals as goal

pub loop-position-preserved-then-not-home : goal.loop-position-preserved-then-not-home
loop-position-preserved-then-not-home g c =
    let n = g.N.Network.meaning c.args.net.now in
    let m = c.loop-position.self in
    let channel : c.pair_at-pair.result.channel ≡ c.in-Some.position / n.places = search rules in
    let place : c.pair_at-pair.result.place ≡ c.in-Some.position % n.places = search rules in
    (followed_more c.in-Some.ensures c.loop-position.invariant.0 c.follow_ways.ensures.sound c.follow_ways.ensures.grown (λ _. rw (channel, place) at c.follow_ways.ensures.ways), search rules)
