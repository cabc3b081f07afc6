use Rattle.std.proofs.Common.{Ok, Err, arith}
use Rattle.std.proofs.lemmas.Result.{err_from_is_err_and}
use Rattle.files.specs.Answers.{Answers}
use Rattle.files.proofs.LineByLine.{begins, goes_on, counts, size_fault, record_fault, all_read, fewer_records}
use Rattle.files.proofs.OneAnswer.{sole}
use Rattle.files.proofs.judging.judge.Goals as goal

pub returns-in_err-size : goal.returns-in_err-size
returns-in_err-size c =
    let p = err_from_is_err_and c.from_residual.result c.from_residual.ensures.1 in
    let f = size_fault c.args.file.now c.in_err-size.field-0.0 (rw c.new-reader.ensures.file at c.in_err-size.ensures) in
    rw (p.1, p.2) (record { answers = f; sole = sole c.args.file.now (Err c.in_err-size.field-0.0) f })

pub loop-record-init : goal.loop-record-init
loop-record-init c =
    rw c.into_iter-record-iterator.ensures.into_iter_gives (begins c.args.file.now c.in_ok-size.size _ _ (rw c.new-reader.ensures.file at c.in_ok-size.ensures) c.new-reader.ensures.lines c.new-reader.ensures.passed)

pub returns-in_err-record : goal.returns-in_err-record
returns-in_err-record c =
    let p = err_from_is_err_and c.from_residual-in_err-record.result c.from_residual-in_err-record.ensures.1 in
    let f = record_fault c.args.file.now c.in_ok-size.size c.loop-record.records _ _ _ _ c.in_err-record.field-0.0 c.loop-record.invariant (rw c.in_err-record.was at c.in-Some.ensures.steps.1) in
    rw (p.1, p.2) (record { answers = f; sole = sole c.args.file.now (Err c.in_err-record.field-0.0) f })

pub overflow_add-records : goal.overflow_add-records
overflow_add-records c = omega (arith, fewer_records _ _ _ _ _ c.loop-record.invariant)

pub loop-record-preserved : goal.loop-record-preserved
loop-record-preserved c = goes_on c.args.file.now c.in_ok-size.size c.loop-record.records _ _ _ _ c.in_ok-record.field-0 c.loop-record.invariant (rw c.in_ok-record.was at c.in-Some.ensures.steps.1)

pub returns : goal.returns
returns c =
    let u = c.loop-record.invariant in
    let r = all_read c.args.file.now c.in_ok-size.size c.loop-record.records _ _ _ _ u c.in-None.ensures.steps.1 in
    let a : Answers c.args.file.now (Ok (record { size = c.in_ok-size.size; records = c.loop-record.records })) = (c.in_ok-size.size, u.rs, r, counts c.in_ok-size.size c.loop-record.records u.rs u.count) in
    record { answers = a; sole = sole c.args.file.now (Ok (record { size = c.in_ok-size.size; records = c.loop-record.records })) a }
