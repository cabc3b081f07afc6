use Rattle.std.proofs.Common.{◌≡◌, ◌∷◌, [], decimal, arith, ◌∙◌}
use Rattle.std.proofs.lemmas.Fmt.{decimal_digit}
use Rattle.std.proofs.lemmas.Result.{IfOk-weaker}
use Rattle.answers.proofs.judging.result_line.Goals as goal

pub returns : goal.returns
returns c =
    let zero : decimal 0 ≡ 48 ∷ [] = decimal_digit 0 (omega arith) in
    IfOk-weaker c.format.result _ _ (λ s e. e ∙ simp (c.number-number.ensures, c.line-line.ensures, zero)) c.format.ensures.ok
