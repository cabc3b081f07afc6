use Rattle.std.proofs.Common.{string_bytes}
use Rattle.std.proofs.lemmas.Result.{IfOk-weaker}
use Rattle.answers.proofs.Early.{early_answer}
use Rattle.answers.proofs.Only.{held, rejected}
use Rattle.answers.proofs.answer.Goals as goal

pub returns-in-Ok : goal.returns-in-Ok
returns-in-Ok c =
    let input = c.args.input.now in
    let a = IfOk-weaker c.verdict_text.result _ _ (λ s e. held input (string_bytes s) c.in-Ok.ensures.0 c.in-Ok.findings c.in-Ok.ensures.1 e) c.verdict_text.ensures in
    record { answered = a; early = IfOk-weaker c.verdict_text.result _ _ (λ s e. early_answer input (string_bytes s) e) a }

pub returns-in-Err : goal.returns-in-Err
returns-in-Err c =
    let input = c.args.input.now in
    let a = IfOk-weaker c.fault_line.result _ _ (λ s e. rejected input (string_bytes s) c.in-Err.fault c.in-Err.ensures e) c.fault_line.ensures in
    record { answered = a; early = IfOk-weaker c.fault_line.result _ _ (λ s e. early_answer input (string_bytes s) e) a }
