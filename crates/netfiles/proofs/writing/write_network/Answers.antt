use Rattle.std.proofs.Common.{refl, arith}
use Rattle.std.proofs.lemmas.Result.{err_from_is_err_and}
use Rattle.netfiles.proofs.WrittenLines.{refused, written}
use Rattle.netfiles.specs.Writing.{short}
use Rattle.netfiles.proofs.OnlyWriting.{size_told, only_writing}
use Rattle.netfiles.proofs.writing.write_network.Goals as goal

pub returns-in_err-new-clause-writing : goal.returns-in_err-new-clause-writing
returns-in_err-new-clause-writing c =
    let p = err_from_is_err_and c.from_residual.result c.from_residual.ensures.1 in
    rw (p.1, p.2) (refused c.args.size c.args.records.now _ c.in_err-new.field-0.0 c.in_err-new.ensures.makes, refl)

pub returns-in_err-new-clause-size : goal.returns-in_err-new-clause-size
returns-in_err-new-clause-size c = size_told c.args.size c.args.records.now c.args.file.now _ c.args.file.now (returns-in_err-new-clause-writing c)

pub returns-in_err-new-clause-only : goal.returns-in_err-new-clause-only
returns-in_err-new-clause-only c = only_writing c.args.size c.args.records.now c.args.file.now _ c.args.file.now (returns-in_err-new-clause-writing c)

pub returns-clause-writing : goal.returns-clause-writing
returns-clause-writing c =
    let w = rw c.unwrap-end.ensures at c.write.ensures.writes in
    written c.args.size c.args.records.now c.unwrap-end.result c.write_records.result c.args.file.now c.write.new.out c.write_records.new.file c.in_ok-new.ensures.makes.0 (omega arith) w.1 c.write_records.ensures

pub returns-clause-size : goal.returns-clause-size
returns-clause-size c = size_told c.args.size c.args.records.now c.args.file.now _ c.write_records.new.file (returns-clause-writing c)

pub returns-clause-only : goal.returns-clause-only
returns-clause-only c = only_writing c.args.size c.args.records.now c.args.file.now _ c.write_records.new.file (returns-clause-writing c)

pub returns-in_err-check-clause-writing : goal.returns-in_err-check-clause-writing
returns-in_err-check-clause-writing c =
    let p = err_from_is_err_and c.from_residual-in_err-check.result c.from_residual-in_err-check.ensures.1 in
    let e = c.in_err-check.ensures in
    rw (p.1, p.2) (short c.in_ok-new.ensures.makes.0 (rw c.text_len.ensures at e.0) e.1, refl)

pub returns-in_err-check-clause-only : goal.returns-in_err-check-clause-only
returns-in_err-check-clause-only c = only_writing c.args.size c.args.records.now c.args.file.now _ c.args.file.now (returns-in_err-check-clause-writing c)
