use Rattle.std.proofs.Common.{◌≡◌, replicate, length, rules}
use Rattle.tracing.proofs.Queueing.{queued_none, traced}
use Rattle.tracing.proofs.mark_allowed.Goals as goal

pub invariant_of-marks : goal.invariant_of-marks
invariant_of-marks g c =
    let e : c.fill.new.self ≡ replicate (length c.fill.new.self) 0 = search rules in
    record { queued = queued_none e (search rules) (search rules) }

pub returns : goal.returns
returns g c =
    traced (g.N.Network.conditions c.args.net.now) c.follow.ensures.followed c.follow.ensures.all c.args.table.now _ c.requires.bytes (search rules)
