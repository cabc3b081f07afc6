use Rattle.std.proofs.Common.{rules, refl, ap, ◌<◌, None, Some}
use Rattle.loads.specs.Calls.{without_packet}
use Rattle.std.proofs.lemmas.Result.{err_from_is_err_and}
use Rattle.loads.proofs.OneAnswer.{only_move}
use Rattle.loads.proofs.Records.{nothing_read, packet_read, way_read, way_inside, written}
use Rattle.loads.proofs.Refusals.{move_no_packet_told, move_home, move_no_way, move_taken, missing_way}
use Rattle.loads.proofs.calls.move_on.Goals as goal

pub returns-in_err-pair : goal.returns-in_err-pair
returns-in_err-pair g c =
    let n = g.N.Network.meaning c.args.net.now in
    let p = err_from_is_err_and c.from_residual.result c.from_residual.ensures.1 in
    rw (p.1, p.2) (only_move n (g.N.Network.conditions c.args.net.now) c.args.load.now c.args.channel c.args.position _ _ (move_no_packet_told n c.args.load.now c.args.channel c.args.position _ c.in_err-pair.ensures, refl))

pub returns-then-home : goal.returns-then-home
returns-then-home g c =
    let n = g.N.Network.meaning c.args.net.now in
    let at = c.in_ok-pair.ensures in
    only_move n (g.N.Network.conditions c.args.net.now) c.args.load.now c.args.channel c.args.position _ _ (move_home at.0 at.2 (cc (c.if-home.true, c.home.ensures, at.1)), refl)

pub returns-in_err-way : goal.returns-in_err-way
returns-in_err-way g c =
    let n = g.N.Network.meaning c.args.net.now in
    let at = c.in_ok-pair.ensures in
    let none = c.in_err-way.ensures.ok_part in
    let way = way_read n c.args.channel c.in_ok-pair.pair.channel c.in_ok-pair.pair.place c.args.position c.way.result None at.1 none c.way.ensures in
    let f = missing_way c.way.result c.in_err-way.field-0.0 none c.in_err-way.ensures.value in
    let p = err_from_is_err_and c.from_residual-in_err-way.result c.from_residual-in_err-way.ensures.1 in
    rw (p.1, p.2, f) (only_move n (g.N.Network.conditions c.args.net.now) c.args.load.now c.args.channel c.args.position _ _ (move_no_way at.0 at.2 (cc (c.if-home.false, c.home.ensures, at.1)) way, refl))

pub returns-then-is_some : goal.returns-then-is_some
returns-then-is_some g c =
    let n = g.N.Network.meaning c.args.net.now in
    let ok = g.N.Network.conditions c.args.net.now in
    let at = c.in_ok-pair.ensures in
    let h = c.in_ok-way.way in
    let way = way_read n c.args.channel c.in_ok-pair.pair.channel c.in_ok-pair.pair.place c.args.position c.way.result (Some h) at.1 c.in_ok-way.ensures.ok_part c.way.ensures in
    let l : h < n.channels = way_inside n ok c.args.channel c.in_ok-pair.pair.place c.args.position h way in
    let x = packet_read c.args.load.now h c.place_in.result c.place_in.ensures (search rules) in
    only_move n ok c.args.load.now c.args.channel c.args.position _ _ (move_taken at.0 at.2 (cc (c.if-home.false, c.home.ensures, at.1)) h way (x.0, (l, x.1)), refl)

pub returns : goal.returns
returns g c =
    let n = g.N.Network.meaning c.args.net.now in
    let ok = g.N.Network.conditions c.args.net.now in
    let at = c.in_ok-pair.ensures in
    let h = c.in_ok-way.way in
    let way = way_read n c.args.channel c.in_ok-pair.pair.channel c.in_ok-pair.pair.place c.args.position c.way.result (Some h) at.1 c.in_ok-way.ensures.ok_part c.way.ensures in
    let l : h < n.channels = way_inside n ok c.args.channel c.in_ok-pair.pair.place c.args.position h way in
    only_move n ok c.args.load.now c.args.channel c.args.position _ _ (
      c.in_ok-pair.pair.place,
      h,
      record {
        records = at.0;
        stands = at.2;
        away = cc (c.if-home.false, c.home.ensures, at.1);
        way = way;
        empty = nothing_read c.args.load.now h c.place_in.result c.place_in.ensures (search rules);
      },
      rw c.from-2.ensures (ap (λ load. without_packet load c.args.channel) (written c.args.load.now h c.in_ok-pair.pair.place c.from.result c.holding.result c.from.ensures c.holding.ensures)),
    )
