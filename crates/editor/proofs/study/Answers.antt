use Rattle.std.proofs.lemmas.Result.{err_from_is_err_and}
use Rattle.editor.proofs.Entering.{unread, studied}
use Rattle.editor.proofs.study.Goals as goal

pub returns-in_err-read-clause-studies : goal.returns-in_err-read-clause-studies
returns-in_err-read-clause-studies c =
    let p = err_from_is_err_and c.from_residual.result c.from_residual.ensures.1 in
    rw (p.1, p.2) (unread c.args.file.now _ _ _ c.in_err-read.ensures.reading)

pub returns-clause-studies : goal.returns-clause-studies
returns-clause-studies c = studied c.args.file.now _ _ _ c.in_ok-read.read _ c.in_ok-read.ensures.reading c.check_table.ensures.checks
