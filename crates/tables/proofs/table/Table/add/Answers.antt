use Rattle.std.proofs.Common.{refl}
use Rattle.std.proofs.lemmas.Result.{err_from_is_err_and}
use Rattle.tables.proofs.Adds.{entry_joins, home_joins, way_joins, refused_way}
use Rattle.tables.proofs.Misfits.{misplaced}
use Rattle.tables.proofs.table.Table.add.Goals as goal

pub returns-in_err-at : goal.returns-in_err-at
returns-in_err-at c =
    let p = err_from_is_err_and c.from_residual.result c.from_residual.ensures.1 in
    let e = rw c.pair_of.ensures at c.in_err-at.ensures in
    rw (p.1, p.2) (misplaced _ c.args.line c.args.record _ e, refl)

pub returns-then-next-self : goal.returns-then-next-self
returns-then-next-self c =
    let e = c.in_ok-at.ensures in
    (refused_way c.args.self.now c.args.line c.pair_of.ensures c.in-Way.is e.0 e.1 c.if-next-self.true, refl)

pub returns-in-Entry : goal.returns-in-Entry
returns-in-Entry c = entry_joins c.args.self.now c.args.record c.pair_of.ensures c.in_ok-at.ensures c.index_mut.ensures.value c.in-Entry.is

pub returns-in-Home : goal.returns-in-Home
returns-in-Home c = home_joins c.args.self.now c.args.record c.pair_of.ensures c.in_ok-at.ensures c.index_mut-in-Home.ensures.value c.in-Home.is

pub returns-in_ok-ok_or-in-Way : goal.returns-in_ok-ok_or-in-Way
returns-in_ok-ok_or-in-Way c =
    let e = rw c.in_ok-ok_or-in-Way.ensures.ok_part at c.try_push.ensures in
    rw e.1 (way_joins c.args.self.now c.args.record c.pair_of.ensures c.in_ok-at.ensures c.index_mut-in-Way.ensures.value c.in-Way.is c.if-next-self.false e.0)
