use Rattle.std.proofs.Common.{◌≡◌, true, false, rules, tests}
use Rattle.std.proofs.lemmas.Iterator.{first_from_Range}
use Rattle.tracing.proofs.Queueing.{entry_found}
use Rattle.tracing.proofs.next_entry.Goals as goal

pub returns : goal.returns
returns g c =
    let n = g.N.Network.meaning c.args.net.now in
    entry_found n c.args.channel c.args.from c.places.result c.places.ensures c.find.result (first_from_Range _ _ _ c.find.result (λ d. n.entry c.args.channel d ≡ true) (λ d. n.entry c.args.channel d ≡ false) c.find.ensures.ran (λ x q k. search (rules, tests)) (λ x q k. search (rules, tests)))
