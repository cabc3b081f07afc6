use Rattle.std.proofs.Common.{rules, tests, slice_index}
use Rattle.std.proofs.lemmas.Iterator.{first_from_Range}
use Rattle.judges.specs.Judgements.{NoSmaller}
use Rattle.judges.proofs.NeedSearch.{lowest_found}
use Rattle.judges.proofs.needs.lowest_place.Goals as goal

pub returns : goal.returns
returns g c =
    let n = g.N.Network.meaning c.args.net.now in
    let number = slice_index c.args.numbers.now in
    lowest_found (g.N.Network.conditions c.args.net.now) number c.args.channel c.places.result (search rules) c.find.result
    (first_from_Range _ _ _ c.find.result (NoSmaller n number c.args.channel) (λ d. NoSmaller n number c.args.channel d → ⊥) c.find.ensures.ran (λ x q k. search (rules, tests)) (λ x q k. search (rules, tests)))
