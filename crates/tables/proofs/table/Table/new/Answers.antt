use Rattle.std.proofs.Common.{◌+◌, inl, ap, ◌∙◌}
use Rattle.std.proofs.lemmas.Result.{err_from_is_err_and}
use Rattle.tables.proofs.ByRecord.{one_more, one_refused}
use Rattle.tables.proofs.table.Table.new.Goals as goal

pub loop-line-preserved : goal.loop-line-preserved
loop-line-preserved c =
    let s = c.in-Some.ensures.steps in
    one_more c.loop-line.invariant s.1 (s.0.1 ∙ ap (λ k. k + 1) s.0.0) c.in_ok-add.ensures

pub returns-in_err-add-clause-makes : goal.returns-in_err-add-clause-makes
returns-in_err-add-clause-makes c =
    let p = err_from_is_err_and c.from_residual-in_err-add.result c.from_residual-in_err-add.ensures.1 in
    let s = c.in-Some.ensures.steps in
    rw (p.1, p.2) (inl (one_refused c.loop-line.invariant s.1 s.0.0 c.in_err-add.ensures.0))
