use Rattle.std.proofs.Common.{Err, refl, arith}
use Rattle.std.proofs.lemmas.Result.{err_from_is_err_and}
use Rattle.files.proofs.Copies.{surely, size_room, size_small, starts, record_room, more, no_fault, done}
use Rattle.records.specs.Rendering.{size_numbers, letter_of, numbers_of}
use Rattle.files.proofs.LineByLine.{size_fault}
use Rattle.files.proofs.OneAnswer.{reads_or_fault}
use Rattle.files.specs.declared.rewriting.RewriteFault.TheVariants.{Line}
use Rattle.records.specs.declared.writing.WriteFault.TheVariants.{NoRoom}
use Rattle.files.proofs.Rewritten.{one}
use Rattle.files.proofs.rewriting.rewrite.Goals as goal

pub returns-in_err-judge-clause-rewrites : goal.returns-in_err-judge-clause-rewrites
returns-in_err-judge-clause-rewrites c =
    let p = err_from_is_err_and c.from_residual.result c.from_residual.ensures.1 in
    rw (p.1, p.2) (c.in_err-judge.ensures.answers, refl)

pub returns-in_err-judge-clause-only : goal.returns-in_err-judge-clause-only
returns-in_err-judge-clause-only c = one c.args.file.now c.args.out.now _ c.args.out.now (returns-in_err-judge-clause-rewrites c)

pub returns-then-out-file-clause-only : goal.returns-then-out-file-clause-only
returns-then-out-file-clause-only c =
    let said = c.in_ok-judge.ensures.answers in
    one c.args.file.now c.args.out.now (Err (Line NoRoom)) c.args.out.now ((said.0, said.1, said.2), c.if-out-file.true, refl)

pub returns-in_err-size : goal.returns-in_err-size
returns-in_err-size c =
    let said = c.in_ok-judge.ensures.answers in
    absurd (reads_or_fault c.args.file.now said.0 said.1 c.in_err-size.field-0.0 said.2 (size_fault c.args.file.now c.in_err-size.field-0.0 (rw c.new-reader.ensures.file at c.in_err-size.ensures)))

pub returns-in_err-end : goal.returns-in_err-end
returns-in_err-end c =
    let says = rw c.new-reader.ensures.file at c.in_ok-size.ensures in
    let room = size_room c.args.file.now c.in_ok-size.size _ _ says c.new-reader.ensures.lines c.new-reader.ensures.passed in
    let small = size_small c.args.file.now c.in_ok-size.size _ _ says c.new-reader.ensures.lines c.new-reader.ensures.passed in
    absurd (surely 110 (size_numbers c.in_ok-size.size) 0 c.args.out.now c.write.new.out c.in_err-end.field-0.0 small (omega (arith, room, c.if-out-file.false)) c.in_err-end.ensures.writes)

pub loop-record-init : goal.loop-record-init
loop-record-init c =
    rw c.into_iter-record-iterator.ensures.into_iter_gives (starts c.args.file.now c.in_ok-size.size _ _ (rw c.new-reader.ensures.file at c.in_ok-size.ensures) c.new-reader.ensures.lines c.new-reader.ensures.passed c.args.out.now c.write.new.out c.in_ok-end.end (omega arith) c.in_ok-end.ensures.writes.1)

pub returns-in_err-record : goal.returns-in_err-record
returns-in_err-record c =
    let said = c.in_ok-judge.ensures.answers in
    absurd (no_fault c.args.file.now _ _ _ _ _ _ _ _ c.loop-record.invariant c.in_err-record.field-0.0 said.0 said.1 said.2 (rw c.in_err-record.was at c.in-Some.ensures.steps.1))

pub returns-in_err-end-2 : goal.returns-in_err-end-2
returns-in_err-end-2 c =
    let next = rw c.in_ok-record.was at c.in-Some.ensures.steps.1 in
    let room = record_room c.args.file.now _ _ _ _ _ _ _ _ c.loop-record.invariant c.in_ok-record.field-0 next in
    absurd (surely (letter_of c.in_ok-record.field-0) (numbers_of c.in_ok-record.field-0) c.loop-record.end c.loop-record.out c.write-in-loop-record.new.out c.in_err-end-2.field-0.0 next.2.small (omega (arith, room, c.if-out-file.false)) c.in_err-end-2.ensures.writes)

pub loop-record-preserved : goal.loop-record-preserved
loop-record-preserved c =
    let next = rw c.in_ok-record.was at c.in-Some.ensures.steps.1 in
    more c.args.file.now _ _ _ _ _ _ _ _ c.loop-record.invariant c.in_ok-record.field-0 _ _ next c.loop-record.auto.out c.in_ok-end-2.ensures.writes.1

pub returns-clause-rewrites : goal.returns-clause-rewrites
returns-clause-rewrites c =
    done c.args.file.now _ _ _ _ _ _ _ _ c.loop-record.invariant _ c.args.out.now c.in-None.ensures.steps.1 (omega arith) c.in_ok-end.ensures.writes.1

pub returns-clause-only : goal.returns-clause-only
returns-clause-only c = one c.args.file.now c.args.out.now _ c.loop-record.out (returns-clause-rewrites c)
