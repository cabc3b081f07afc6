use Rattle.std.proofs.Common.{rules}
use Rattle.answers.proofs.Rows.{no_row, not_named, not_worded, no_greatest, no_held, opened}
use Rattle.answers.proofs.results.read_check.Goals as goal

pub returns-in_err-name : goal.returns-in_err-name
returns-in_err-name c = rw c.from_residual.ensures (no_row c.args.lines.now.rest c.in_err-name.ensures)

pub returns-then-ne : goal.returns-then-ne
returns-then-ne c = not_named c.args.lines.now.rest c.in_ok-name.name.now _ _ _ _ c.in_ok-name.ensures (search rules)

pub returns-in_err-verdict : goal.returns-in_err-verdict
returns-in_err-verdict c = rw c.from_residual-in_err-verdict.ensures (not_worded c.args.lines.now.rest _ _ _ _ _ c.in_ok-name.ensures c.in_err-verdict.ensures)

pub returns-in_err-read_number : goal.returns-in_err-read_number
returns-in_err-read_number c = rw c.from_residual-in_err-read_number.ensures (no_greatest c.args.lines.now.rest _ _ _ _ _ c.in_ok-name.ensures c.in_err-read_number.ensures.cases)

pub returns-in_err-read_number-2 : goal.returns-in_err-read_number-2
returns-in_err-read_number-2 c = rw c.from_residual-in_err-read_number-2.ensures (no_held c.args.lines.now.rest _ _ _ _ _ c.in_ok-name.ensures c.in_err-read_number-2.ensures.cases)

pub returns : goal.returns
returns c =
    rw (c.from-greatest.ensures, c.from-held.ensures) (opened c.args.lines.now.rest _ _ _ _ _ c.in_ok-name.ensures _ (search rules) c.in_ok-verdict.ensures c.in_ok-read_number.ensures.cases.1 c.in_ok-read_number-2.ensures.cases.1)
