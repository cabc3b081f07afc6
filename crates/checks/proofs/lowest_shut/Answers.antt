use Rattle.std.proofs.Common.{rules, tests, slice_index}
use Rattle.std.proofs.lemmas.Iterator.{first_from_Range}
use Rattle.networks.specs.Allowed.{said}
use Rattle.escapes.specs.Escaping.{escape, escape_conditions}
use Rattle.checks.specs.Checks.{Shut}
use Rattle.checks.proofs.OurLoad.{lowest_found}
use Rattle.checks.proofs.lowest_shut.Goals as goal

pub returns : goal.returns
returns g c =
    let n = g.N.Network.meaning c.args.net.now in
    let s = escape n (said c.args.allowed.now) in
    let number = slice_index c.args.numbers.now in
    lowest_found s (escape_conditions n (said c.args.allowed.now) (g.N.Network.conditions c.args.net.now)) number c.args.channel c.places.result (search rules) c.find.result
    (first_from_Range _ _ _ c.find.result (Shut s number c.args.channel) (λ d. Shut s number c.args.channel d → ⊥) c.find.ensures.ran (λ x q k. search (rules, tests)) (λ x q k. search (rules, tests)))
