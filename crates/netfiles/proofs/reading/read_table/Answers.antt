use Rattle.std.proofs.Common.{inl, arith}
use Rattle.std.proofs.lemmas.Result.{err_from_is_err_and}
use Rattle.files.proofs.LineByLine.{fewer_records}
use Rattle.netfiles.proofs.ByLine.{size_refused, blank_refused, begins, text_refused, record_refused, goes_on, accepted, too_many}
use Rattle.netfiles.proofs.OnlyReadings.{table_first, only_table}
use Rattle.netfiles.proofs.reading.read_table.Goals as goal

pub returns-in_err-size-clause-reading : goal.returns-in_err-size-clause-reading
returns-in_err-size-clause-reading c =
    let p = err_from_is_err_and c.from_residual.result c.from_residual.ensures.1 in
    rw (p.1, p.2) (inl (size_refused c.args.file.now c.args.room _ (rw c.new-reader.ensures.file at c.in_err-size.ensures)))

pub returns-in_err-table-clause-reading : goal.returns-in_err-table-clause-reading
returns-in_err-table-clause-reading c =
    let p = err_from_is_err_and c.from_residual-in_err-table.result c.from_residual-in_err-table.ensures.1 in
    rw (p.1, p.2) (blank_refused c.args.file.now c.args.room c.in_ok-size.size _ (rw c.new-reader.ensures.file at c.in_ok-size.ensures) c.in_err-table.ensures)

pub loop-record-init : goal.loop-record-init
loop-record-init c =
    let e = c.in_ok-table.ensures in
    begins c.args.file.now c.in_ok-size.size _ _ c.in_ok-table.table (rw c.new-reader.ensures.file at c.in_ok-size.ensures) c.new-reader.ensures.lines c.new-reader.ensures.passed e.0 e.1

pub returns-in_err-record-clause-reading : goal.returns-in_err-record-clause-reading
returns-in_err-record-clause-reading c =
    let p = err_from_is_err_and c.from_residual-in_err-record.result c.from_residual-in_err-record.ensures.1 in
    rw (p.1, p.2) (inl (text_refused c.args.file.now c.args.room _ _ _ _ _ _ _ c.loop-record.invariant _ (rw c.in_err-record.was at c.in-Some.ensures.steps.1)))

pub returns-in_err-add-clause-reading : goal.returns-in_err-add-clause-reading
returns-in_err-add-clause-reading c =
    let p = err_from_is_err_and c.from_residual-in_err-add.result c.from_residual-in_err-add.ensures.1 in
    let next = rw c.in_ok-record.was at c.in-Some.ensures.steps.1 in
    rw (p.1, p.2) (inl (record_refused c.args.file.now c.args.room _ _ _ _ _ _ _ c.loop-record.invariant _ _ _ next c.line.ensures.line c.in_err-add.ensures.0))

pub overflow_add-records : goal.overflow_add-records
overflow_add-records c = omega (arith, fewer_records _ _ _ _ _ c.loop-record.invariant.lines)

pub loop-record-preserved : goal.loop-record-preserved
loop-record-preserved c =
    let e = c.in_ok-add.ensures in
    goes_on c.args.file.now 0 _ _ _ _ _ _ _ c.loop-record.invariant _ _ (rw c.in_ok-record.was at c.in-Some.ensures.steps.1) e.0 e.1

pub returns-in_err-check_count-clause-reading : goal.returns-in_err-check_count-clause-reading
returns-in_err-check_count-clause-reading c =
    let p = err_from_is_err_and c.from_residual-in_err-check_count.result c.from_residual-in_err-check_count.ensures.1 in
    let e = c.in_err-check_count.ensures in
    rw (p.1, p.2) (inl (too_many c.args.file.now c.args.room _ _ _ _ _ _ _ c.loop-record.invariant _ c.in_default.ensures.steps.1 e.0 e.1))

pub returns-clause-reading : goal.returns-clause-reading
returns-clause-reading c = accepted c.args.file.now c.args.room _ _ _ _ _ _ _ c.loop-record.invariant c.in_default.ensures.steps.1 c.in_ok-check_count.ensures

pub returns-in_err-size-clause-first : goal.returns-in_err-size-clause-first
returns-in_err-size-clause-first c = table_first c.args.file.now c.args.room _ (returns-in_err-size-clause-reading c)

pub returns-in_err-size-clause-only : goal.returns-in_err-size-clause-only
returns-in_err-size-clause-only c = only_table c.args.file.now c.args.room _ (returns-in_err-size-clause-reading c)

pub returns-in_err-table-clause-first : goal.returns-in_err-table-clause-first
returns-in_err-table-clause-first c = table_first c.args.file.now c.args.room _ (returns-in_err-table-clause-reading c)

pub returns-in_err-table-clause-only : goal.returns-in_err-table-clause-only
returns-in_err-table-clause-only c = only_table c.args.file.now c.args.room _ (returns-in_err-table-clause-reading c)

pub returns-in_err-record-clause-first : goal.returns-in_err-record-clause-first
returns-in_err-record-clause-first c = table_first c.args.file.now c.args.room _ (returns-in_err-record-clause-reading c)

pub returns-in_err-record-clause-only : goal.returns-in_err-record-clause-only
returns-in_err-record-clause-only c = only_table c.args.file.now c.args.room _ (returns-in_err-record-clause-reading c)

pub returns-in_err-add-clause-first : goal.returns-in_err-add-clause-first
returns-in_err-add-clause-first c = table_first c.args.file.now c.args.room _ (returns-in_err-add-clause-reading c)

pub returns-in_err-add-clause-only : goal.returns-in_err-add-clause-only
returns-in_err-add-clause-only c = only_table c.args.file.now c.args.room _ (returns-in_err-add-clause-reading c)

pub returns-in_err-check_count-clause-first : goal.returns-in_err-check_count-clause-first
returns-in_err-check_count-clause-first c = table_first c.args.file.now c.args.room _ (returns-in_err-check_count-clause-reading c)

pub returns-in_err-check_count-clause-only : goal.returns-in_err-check_count-clause-only
returns-in_err-check_count-clause-only c = only_table c.args.file.now c.args.room _ (returns-in_err-check_count-clause-reading c)

pub returns-clause-first : goal.returns-clause-first
returns-clause-first c = table_first c.args.file.now c.args.room _ (returns-clause-reading c)

pub returns-clause-only : goal.returns-clause-only
returns-clause-only c = only_table c.args.file.now c.args.room _ (returns-clause-reading c)
