use Rattle.std.proofs.Common.{◌∙◌, inl, rules, arith}
use Rattle.lines.proofs.Counts.{fields_counted}
use Rattle.lines.proofs.Laws.{few_left}
use Rattle.lines.specs.Pieces.{raw}
use Rattle.files.proofs.FirstNumbers.{one_number_more, bad_number, too_few, all_numbers}
use Rattle.files.proofs.fields.numbers.Goals as goal

pub returns-in_default : goal.returns-in_default
returns-in_default g c =
    let s = c.in_default.ensures.steps in
    too_few _ _ _ _ _ _ c.loop-at.invariant (raw c.args.line) _ c.loop-at-test.true c.requires (search (rules, s))

pub count-requires-clause-fits : goal.count-requires-clause-fits
count-requires-clause-fits g c = inl (search (rules, few_left))

pub fault_of-requires : goal.fault_of-requires
fault_of-requires g c =
    let s = c.in-Some.ensures.steps in
    let n = fields_counted c.next.new.self c.count.result c.count.ensures.ran in
    record { fits = omega (arith, n, s.1.0, s.1.1, s.3, few_left (λ x. x) c.next.new.self.rest, c.loop-at.invariant.place) }

pub returns-in_default-read_number : goal.returns-in_default-read_number
returns-in_default-read_number g c =
    let s = c.in-Some.ensures.steps in
    let n = fields_counted c.next.new.self c.count.result c.count.ensures.ran in
    rw (c.fault_of.ensures, n) (bad_number _ _ _ _ _ _ c.loop-at.invariant (raw c.args.line) _ _ _ _ c.loop-at-test.true c.requires s.0 c.in_default-read_number.ensures.cases s.1.0)

pub loop-at-preserved : goal.loop-at-preserved
loop-at-preserved g c =
    let s = c.in-Some.ensures.steps in
    one_number_more _ _ _ _ _ _ c.loop-at.invariant _ _ _ _ c.loop-at-test.true s.0 c.in-Some-read_number.ensures.cases.1 (s.1.1 ∙ s.1.0)

pub returns : goal.returns
returns g c = all_numbers _ _ _ _ _ _ c.loop-at.invariant (raw c.args.line) (search rules) (search rules) c.requires (search rules)
