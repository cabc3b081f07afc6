use Rattle.std.proofs.Common.{rules, slice_index, refl}
use Rattle.loads.specs.Calls.{MayTake}
use Rattle.drains.specs.Emptying.{taken, moved}
use Rattle.drains.proofs.Advancing.{may_move, move_accepted, take_accepted}
use Rattle.drains.proofs.emptying.advance.Goals as goal

pub unwrap-requires : goal.unwrap-requires
unwrap-requires g c =
    let may : MayTake (g.N.Network.meaning c.args.net.now) c.args.load.now c.args.pair.channel c.args.pair.place = record { records = c.requires.records; stands = c.requires.first.stands; home = search rules } in
    (take_accepted may c.take.ensures).0

pub returns-then-home : goal.returns-then-home
returns-then-home g c =
    let may : MayTake (g.N.Network.meaning c.args.net.now) c.args.load.now c.args.pair.channel c.args.pair.place = record { records = c.requires.records; stands = c.requires.first.stands; home = search rules } in
    taken may refl (take_accepted may c.take.ensures).1

pub unwrap-requires-2 : goal.unwrap-requires-2
unwrap-requires-2 g c =
    let smaller = rw c.unwrap-hop.ensures at c.first_smaller.ensures in
    (move_accepted (may_move (g.N.Network.meaning c.args.net.now) (g.N.Network.conditions c.args.net.now) (slice_index c.args.numbers.now) c.args.load.now c.args.pair.channel c.args.pair.place c.unwrap-hop.result.position c.unwrap-hop.result.channel c.requires.records c.requires.first (search rules) smaller) c.move_on.ensures).0

pub returns : goal.returns
returns g c =
    let smaller = rw c.unwrap-hop.ensures at c.first_smaller.ensures in
    let may = may_move (g.N.Network.meaning c.args.net.now) (g.N.Network.conditions c.args.net.now) (slice_index c.args.numbers.now) c.args.load.now c.args.pair.channel c.args.pair.place c.unwrap-hop.result.position c.unwrap-hop.result.channel c.requires.records c.requires.first (search rules) smaller in
    moved c.unwrap-hop.result.position may smaller (move_accepted may c.move_on.ensures).1
