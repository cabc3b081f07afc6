use Rattle.std.proofs.Common.{string_bytes}
use Rattle.std.proofs.lemmas.Result.{IfOk-weaker}
use Rattle.answers.proofs.Concluding.{judged, told, told_bad}
use Rattle.answers.proofs.Early.{early_judged}
use Rattle.answers.proofs.judging.judge_result.Goals as goal

pub returns-in-Ok : goal.returns-in-Ok
returns-in-Ok c =
    let input = c.args.input.now in
    let file = c.args.file.now in
    let a = IfOk-weaker c.judgement_text.result _ _ (λ s e. judged input file (string_bytes s) c.in-Ok.judgement c.in-Ok.ensures e) c.judgement_text.ensures in
    record { refereed = a; early = IfOk-weaker c.judgement_text.result _ _ (λ s e. early_judged input file (string_bytes s) e) a }

pub returns-in-Err-Study : goal.returns-in-Err-Study
returns-in-Err-Study c =
    let input = c.args.input.now in
    let file = c.args.file.now in
    let a = IfOk-weaker c.fault_line.result _ _ (λ s e. told input file (string_bytes s) c.in-Err-Study.fault (rw c.in-Err-Study.field-0-is at c.in-Err-Study.ensures) e) c.fault_line.ensures in
    record { refereed = a; early = IfOk-weaker c.fault_line.result _ _ (λ s e. early_judged input file (string_bytes s) e) a }

pub returns-in-Err-Result : goal.returns-in-Err-Result
returns-in-Err-Result c =
    let input = c.args.input.now in
    let file = c.args.file.now in
    let a = IfOk-weaker c.result_line.result _ _ (λ s e. told_bad input file (string_bytes s) c.in-Err-Result.fault (rw c.in-Err-Result.field-0-is at c.in-Err-Result.ensures) e) c.result_line.ensures in
    record { refereed = a; early = IfOk-weaker c.result_line.result _ _ (λ s e. early_judged input file (string_bytes s) e) a }
