use Rattle.std.proofs.Common.{ℕ, ◌<◌, ◌≤◌, List, slice_index, rules, tests}
use Rattle.std.proofs.lemmas.Iterator.{cases_from_all}
use Rattle.std.proofs.lemmas.Iterator.Consumers.{YieldsList-from_first}
use Rattle.judges.proofs.NeedSearch.{no_need, by_ways}
use Rattle.judges.proofs.needs.has_no_smaller.Goals as goal

pub returns-then-must_move : goal.returns-then-must_move
returns-then-must_move g c =
    let n = g.N.Network.meaning c.args.net.now in
    let number = slice_index c.args.numbers.now in
    by_ways (g.N.Network.conditions c.args.net.now) c.requires.2 number c.args.pair.channel c.args.pair.place c.number_of-own.result c.number_of-own.ensures (search rules) c.all.result
    (cases_from_all _ _ c.all.result (λ h. c.number_of-own.result ≤ number h) (λ h. number h < c.number_of-own.result) c.all.ensures.ran (YieldsList-from_first (λ (x : ℕ). x) (λ (ways : List ℕ). ways) (n.ways c.args.pair.channel c.args.pair.place) (search rules)) (λ x q k. search (rules, tests)) (λ x q k. search (rules, tests)))

pub returns-else-must_move : goal.returns-else-must_move
returns-else-must_move g c =
    no_need (g.N.Network.conditions c.args.net.now) c.requires.2 (slice_index c.args.numbers.now) c.args.pair.channel c.args.pair.place c.must_move.result c.must_move.ensures c.if-must_move.false
