use Rattle.std.proofs.lemmas.Result.{err_from_is_err_and}
use Rattle.answers.proofs.Concluding.{refused, too_long, unread}
use Rattle.answers.proofs.judging.conclude.Goals as goal

pub returns-in_err-table : goal.returns-in_err-table
returns-in_err-table c =
    let p = err_from_is_err_and c.from_residual.result c.from_residual.ensures.1 in
    rw (p.1, p.2) (refused c.args.input.now c.args.file.now _ c.in_err-table.ensures)

pub returns-in_err-check : goal.returns-in_err-check
returns-in_err-check c =
    let p = err_from_is_err_and c.from_residual-in_err-check.result c.from_residual-in_err-check.ensures.1 in
    let e = c.in_err-check.ensures in
    rw (p.1, p.2) (too_long c.args.input.now c.args.file.now _ c.in_ok-table.ensures.0 _ e.0 e.1)

pub returns-in_err-claims : goal.returns-in_err-claims
returns-in_err-claims c =
    let p = err_from_is_err_and c.from_residual-in_err-claims.result c.from_residual-in_err-claims.ensures.1 in
    rw (p.1, p.2) (unread c.args.input.now c.args.file.now _ c.in_ok-table.ensures.0 c.in_ok-findings.findings c.in_ok-findings.ensures c.in_ok-check.ensures _ c.in_err-claims.ensures)
