use Rattle.std.proofs.Common.{◌≡◌, slice_index, length, count_by, nat_eq, rules, ap, ◌∙◌, sym}
use Rattle.std.proofs.lemmas.List.{take_all}
use Rattle.networks.specs.Allowed.{said}
use Rattle.numbering.specs.Deciding.{Decided}
use Rattle.numbering.specs.Numbers.{held_number}
use Rattle.numbering.specs.Outcomes.{count_held}
use Rattle.numbering.proofs.Outcome.{outcome}
use Rattle.numbering.proofs.numbers.number_items.Goals as goal
use Rattle.numbering.proofs.numbers.number_items.Goals.{in-Some, in-None}

pub returns : goal.returns
returns g c =
    let s = g.S.ReleaseSystem.meaning c.args.system.now (said c.args.allowed.now) in
    let ok = g.S.ReleaseSystem.conditions c.args.system.now (said c.args.allowed.now) in
    let after = c.match-number_by_walks.numbers in
    let bound = c.match-number_by_walks.bound in
    let len : length after ≡ s.items = search rules in
    let decided : Decided s (slice_index after) bound = elim c.match-number_by_walks.branch [
      | in-Some w ↦ rw (w.numbers-is, w.bound-is) w.in-Some.ensures
      | in-None w ↦ rw (w.numbers-is, w.bound-is) w.number_by_rounds-bound.ensures
    ] in
    let held : c.count_held.result ≡ count_held s.items after = c.count_held.ensures ∙ ap (count_by (λ word. nat_eq word held_number)) (sym (take_all s.items after (search (rules, len)))) in
    rw c.saturating_sub.ensures (outcome s ok c.args.numbers.now after bound c.count_held.result c.requires.words len decided held)
