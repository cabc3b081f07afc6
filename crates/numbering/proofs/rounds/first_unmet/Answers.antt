use Rattle.std.proofs.Common.{slice_index, rules, tests}
use Rattle.std.proofs.lemmas.Iterator.{first_from_Range}
use Rattle.networks.specs.Allowed.{said}
use Rattle.numbering.specs.Rounds.{Met, Unmet}
use Rattle.numbering.proofs.Settling.{passed_found}
use Rattle.numbering.proofs.rounds.first_unmet.Goals as goal

pub returns : goal.returns
returns g c =
    let s = g.S.ReleaseSystem.meaning c.args.system.now (said c.args.allowed.now) in
    let f = slice_index c.args.numbers.now in
    rw c.unwrap_or.ensures (passed_found s f c.args.item c.args.round c.args.from c.slots-slots.result (search rules) (c.slots-slots.ensures (said c.args.allowed.now)) c.find.result
    (first_from_Range _ _ _ c.find.result (Unmet s f c.args.item c.args.round) (Met s f c.args.item c.args.round) c.find.ensures.ran (λ x q k. search (rules, tests)) (λ x q k. search (rules, tests))))
