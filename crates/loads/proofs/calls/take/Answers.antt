use Rattle.std.proofs.Common.{rules, refl}
use Rattle.std.proofs.lemmas.Result.{err_from_is_err_and}
use Rattle.loads.proofs.OneAnswer.{only_take}
use Rattle.loads.proofs.Refusals.{take_no_packet_told, take_away}
use Rattle.loads.proofs.calls.take.Goals as goal

pub returns-in_err-pair : goal.returns-in_err-pair
returns-in_err-pair g c =
    let n = g.N.Network.meaning c.args.net.now in
    let p = err_from_is_err_and c.from_residual.result c.from_residual.ensures.1 in
    rw (p.1, p.2) (only_take n (g.N.Network.conditions c.args.net.now) c.args.load.now c.args.channel _ _ (take_no_packet_told n c.args.load.now c.args.channel _ c.in_err-pair.ensures, refl))

pub returns-then-not-home : goal.returns-then-not-home
returns-then-not-home g c =
    let n = g.N.Network.meaning c.args.net.now in
    only_take n (g.N.Network.conditions c.args.net.now) c.args.load.now c.args.channel _ _ (take_away c.in_ok-pair.ensures.0 c.in_ok-pair.ensures.2 (cc (c.if-not-home.true, c.home.ensures, c.in_ok-pair.ensures.1)), refl)

pub returns : goal.returns
returns g c =
    let n = g.N.Network.meaning c.args.net.now in
    only_take n (g.N.Network.conditions c.args.net.now) c.args.load.now c.args.channel _ _ (record { records = c.in_ok-pair.ensures.0; stands = c.in_ok-pair.ensures.2; home = cc (c.if-not-home.false, c.home.ensures, c.in_ok-pair.ensures.1) }, search rules)
