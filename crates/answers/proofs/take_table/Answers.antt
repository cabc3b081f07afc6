use Rattle.std.proofs.Common.{ap, inl}
use Rattle.networks.specs.Nets.{Net}
use Rattle.std.proofs.lemmas.Result.{err_from_is_err_and}
use Rattle.answers.proofs.Studies.{unread, too_large, takes, fitting}
use Rattle.answers.proofs.take_table.Goals as goal

pub returns-in_err-read : goal.returns-in_err-read
returns-in_err-read c =
    let p = err_from_is_err_and c.from_residual-in_err-read.result c.from_residual-in_err-read.ensures.1 in
    rw (p.1, p.2) (unread c.args.input.now c.in_ok-check.ensures _ c.in_err-read.ensures.reading)

pub returns-in_err-check_size : goal.returns-in_err-check_size
returns-in_err-check_size c =
    let p = err_from_is_err_and c.from_residual-in_err-check_size.result c.from_residual-in_err-check_size.ensures.1 in
    let e = c.in_err-check_size.ensures in
    rw (p.1, p.2) (inl (too_large c.args.input.now c.in_ok-check.ensures c.in_ok-read.read c.in_ok-read.ensures.reading _ e.0 e.1))

pub returns : goal.returns
returns c =
    let read = c.in_ok-read.ensures.reading in
    let fits = c.in_ok-check_size.ensures in
    (takes c.args.input.now c.in_ok-check.ensures c.in_ok-read.read read fits, fitting c.in_ok-read.read.table.size c.in_ok-read.read.summary.size (ap (λ (n : Net). n.channels) read.3) (ap (λ (n : Net). n.places) read.3) fits)
