use Rattle.std.proofs.Common.{refl}
use Rattle.std.proofs.lemmas.Result.{err_from_is_err_and}
use Rattle.netfiles.proofs.OnlyReadings.{reading_first, only_reading}
use Rattle.netfiles.proofs.reading.read_network.Goals as goal

pub returns-in_err-read-clause-reading : goal.returns-in_err-read-clause-reading
returns-in_err-read-clause-reading c =
    let p = err_from_is_err_and c.from_residual.result c.from_residual.ensures.1 in
    rw (p.1, p.2) (c.in_err-read.ensures.reading, refl)

pub returns-in_err-read-clause-first : goal.returns-in_err-read-clause-first
returns-in_err-read-clause-first c = reading_first c.args.file.now c.args.list.now _ c.args.list.now (returns-in_err-read-clause-reading c)

pub returns-in_err-read-clause-only : goal.returns-in_err-read-clause-only
returns-in_err-read-clause-only c = only_reading c.args.file.now c.args.list.now _ c.args.list.now (returns-in_err-read-clause-reading c)

pub returns-clause-reading : goal.returns-clause-reading
returns-clause-reading c =
    let r = c.in_ok-read.ensures.reading in
    (r.0, r.1, r.2, c.store.ensures c.in_ok-read.read.summary.size r.0 r.1.reads)

pub returns-clause-first : goal.returns-clause-first
returns-clause-first c = reading_first c.args.file.now c.args.list.now _ c.store.new.list (returns-clause-reading c)

pub returns-clause-only : goal.returns-clause-only
returns-clause-only c = only_reading c.args.file.now c.args.list.now _ c.store.new.list (returns-clause-reading c)
