use Rattle.std.proofs.Common.{rules, refl}
use Rattle.std.proofs.lemmas.Result.{err_from_is_err_and}
use Rattle.loads.specs.Calls.{full, taken}
use Rattle.loads.proofs.OneAnswer.{only_put}
use Rattle.loads.proofs.Records.{nothing_read, packet_read, written}
use Rattle.loads.proofs.Refusals.{put_no_channel_told, put_no_place, put_no_entry, put_taken}
use Rattle.loads.proofs.calls.put.Goals as goal
use Rattle.loads.proofs.calls.put.Goals.{then-is_full-via-then-is_full, then-is_full-via-else-is_full+then-is_some}

pub returns-in_err-check_channel : goal.returns-in_err-check_channel
returns-in_err-check_channel g c =
    let n = g.N.Network.meaning c.args.net.now in
    let p = err_from_is_err_and c.from_residual.result c.from_residual.ensures.1 in
    rw (p.1, p.2) (only_put n (g.N.Network.conditions c.args.net.now) c.args.load.now c.args.pair.channel c.args.pair.place _ _ (put_no_channel_told n c.args.load.now c.args.pair.channel c.args.pair.place _ c.in_err-check_channel.ensures, refl))

pub returns-then-pair-places : goal.returns-then-pair-places
returns-then-pair-places g c =
    let n = g.N.Network.meaning c.args.net.now in
    only_put n (g.N.Network.conditions c.args.net.now) c.args.load.now c.args.pair.channel c.args.pair.place _ _ (put_no_place c.in_ok-check_channel.ensures.0 c.in_ok-check_channel.ensures.1 (search rules), refl)

pub returns-then-not-entry : goal.returns-then-not-entry
returns-then-not-entry g c =
    let n = g.N.Network.meaning c.args.net.now in
    only_put n (g.N.Network.conditions c.args.net.now) c.args.load.now c.args.pair.channel c.args.pair.place _ _ (put_no_entry c.in_ok-check_channel.ensures.0 c.in_ok-check_channel.ensures.1 (search rules) (search rules), refl)

pub returns-then-is_full : goal.returns-then-is_full
returns-then-is_full g c =
    let n = g.N.Network.meaning c.args.net.now in
    let l = c.in_ok-check_channel.ensures.1 in
    only_put n (g.N.Network.conditions c.args.net.now) c.args.load.now c.args.pair.channel c.args.pair.place _ _ (
      put_taken c.in_ok-check_channel.ensures.0 l (search rules) (search rules)
          (elim c.then-is_full.branch [
            | then-is_full-via-then-is_full w ↦ full (c.is_full.ensures.0 w.if-is_full.true)
            | then-is_full-via-else-is_full+then-is_some w ↦
                let x = packet_read c.args.load.now c.args.pair.channel w.place_in.result w.place_in.ensures (search rules) in
                taken (x.0, (l, x.1))
          ]),
      refl,
    )

pub returns : goal.returns
returns g c =
    let n = g.N.Network.meaning c.args.net.now in
    only_put n (g.N.Network.conditions c.args.net.now) c.args.load.now c.args.pair.channel c.args.pair.place _ _ (
      record {
        records = c.in_ok-check_channel.ensures.0;
        entry = search rules;
        empty = nothing_read c.args.load.now c.args.pair.channel c.place_in.result c.place_in.ensures (search rules);
      },
      written c.args.load.now c.args.pair.channel c.args.pair.place c.from.result c.holding.result (search rules) c.holding.ensures,
    )
