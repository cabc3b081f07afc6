use Rattle.std.proofs.Common.{ℕ, rules, sym}
use Rattle.std.proofs.lemmas.Bool.{both_ways}
use Rattle.judges.specs.Judgements.{Loose}
use Rattle.judges.proofs.PacketSearch.{lowest_packet, no_packet, no_other, none_more, none_past}
use Rattle.judges.proofs.packets.lowest_loose.Goals as goal
use Rattle.judges.proofs.packets.lowest_loose.Goals.{in-Some+else-is_loose, in_default}

pub returns-then-is_loose : goal.returns-then-is_loose
returns-then-is_loose g c =
    lowest_packet c.args.load.now c.loop-channel.channel c.in-Some.place (search rules, sym c.in-Some.ensures) c.loop-channel.invariant (c.is_loose.ensures.0 c.if-is_loose.true)

pub loop-channel-preserved : goal.loop-channel-preserved
loop-channel-preserved g c =
    let n = g.N.Network.meaning c.args.net.now in
    let l = c.args.load.now in
    let here : (f : ℕ) → Loose n l c.loop-channel.channel f → ⊥ = elim c.match-place_in.branch [
      | in-Some+else-is_loose w ↦ no_other l c.loop-channel.channel w.in-Some.place (search rules, sym w.in-Some.ensures) (λ x. both_ways _ w.if-is_loose.false (w.is_loose.ensures.1 x))
      | in_default w ↦ no_packet l c.loop-channel.channel (sym w.in_default.ensures)
    ] in
    none_more l c.loop-channel.channel c.loop-channel.invariant here

pub returns : goal.returns
returns g c = none_past c.args.load.now c.loop-channel.channel (search rules) c.loop-channel.invariant
