use Rattle.std.proofs.Common.{◌++◌, [], ◌∷◌, ◌+◌, ◌/◌, ◌%◌, decimal, ap, sym, ◌∙◌, arith}
use Rattle.std.proofs.lemmas.List.{append_assoc}
use Rattle.std.proofs.lemmas.Fmt.{decimal_digit, decimal_step}
use Rattle.records.proofs.Texts.{one_digit, more_digits}
use Rattle.records.proofs.writing.+push_number.Goals as goal

pub push-requires : goal.push-requires
push-requires t c = (omega arith, let e = one_digit c.args.n c.if-n-lt10.true in omega (arith, c.requires))

pub returns-then-n-lt10-clause-text : goal.returns-then-n-lt10-clause-text
returns-then-n-lt10-clause-text t c = c.push.ensures.items ∙ ap (λ ds. c.args.line.now.items ++ ds) (sym (decimal_digit c.args.n c.if-n-lt10.true))

pub returns-then-n-lt10-clause-len : goal.returns-then-n-lt10-clause-len
returns-then-n-lt10-clause-len t c = let e = one_digit c.args.n c.if-n-lt10.true in omega (arith, c.push.ensures.len)

pub push_number-requires : goal.push_number-requires
push_number-requires t c = (omega (arith, c.if-n-lt10.false), let e = more_digits c.args.n c.if-n-lt10.false (omega arith) in omega (arith, c.requires))

pub push-requires-2 : goal.push-requires-2
push-requires-2 t c = (omega arith, let e = more_digits c.args.n c.if-n-lt10.false (omega arith) in omega (arith, c.requires, c.push_number.ensures.len))

pub returns-clause-text : goal.returns-clause-text
returns-clause-text t c =
    c.push-2.ensures.items ∙ ap (λ ds. ds ++ ((48 + c.args.n % 10) ∷ [])) c.push_number.ensures.text ∙ append_assoc c.args.line.now.items (decimal (c.args.n / 10)) ((48 + c.args.n % 10) ∷ []) ∙ ap (λ ds. c.args.line.now.items ++ ds) (sym (decimal_step c.args.n c.if-n-lt10.false (omega arith)))

pub returns-clause-len : goal.returns-clause-len
returns-clause-len t c = let e = more_digits c.args.n c.if-n-lt10.false (omega arith) in omega (arith, c.push-2.ensures.len, c.push_number.ensures.len)
