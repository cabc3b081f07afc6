use Rattle.std.proofs.Common.{rules, tests, ℕ, List, nat_eq, slice_index}
use Rattle.std.proofs.lemmas.Iterator.Consumers.{YieldsList-from_first}
use Rattle.std.proofs.lemmas.Iterator.Search.{all_from_yields_List}
use Rattle.networks.specs.Allowed.{said}
use Rattle.escapes.specs.Escaping.{escape}
use Rattle.numbering.specs.Numbers.{held_number}
use Rattle.checks.proofs.OurLoad.{all_held}
use Rattle.checks.proofs.is_shut.Goals as goal

pub returns-then-must_move : goal.returns-then-must_move
returns-then-must_move g c =
    let n = g.N.Network.meaning c.args.net.now in
    all_held (escape n (said c.args.allowed.now)) (slice_index c.args.numbers.now) c.args.pair.channel c.args.pair.place c.all.result (search rules)
    (all_from_yields_List (λ h. nat_eq (slice_index c.args.numbers.now h) held_number) _ _ _ c.all.ensures.ran (YieldsList-from_first (λ (x : ℕ). x) (λ (ways : List ℕ). ways) (n.ways c.args.pair.channel c.args.pair.place) (search rules)) (λ x b q k. search (rules, tests)))
