use Rattle.std.proofs.Common.{inl, arith}
use Rattle.lines.proofs.Laws.{few_lines}
use Rattle.netfiles.proofs.Stores.{begins, room, handed_on, goes_on, ended, done}
use Rattle.netfiles.proofs.reading.store.Goals as goal

pub loop-at-init : goal.loop-at-init
loop-at-init c =
    let s = c.enumerate-at-items.ensures in
    let m = c.map_while.ensures in
    rw (c.into_iter-at-iterator.ensures.into_iter_gives, s.source, s.count, m.source) (begins c.args.file.now _ _ c.args.list.now c.requires c.new.ensures.lines c.new.ensures.passed)

pub loop-at-init-derived : goal.loop-at-init-derived
loop-at-init-derived c =
    let s = c.enumerate-at-items.ensures in
    let m = c.map_while.ensures in
    let l = c.new.ensures.passed in
    let f = few_lines c.args.file.now in
    rw (c.into_iter-at-iterator.ensures.into_iter_gives, s.source, s.count, m.source) (((tt, record { at = λ xs t q x u a b d. tt }), tt, inl (omega arith)), tt)

pub bounds-list-at : goal.bounds-list-at
bounds-list-at c =
    let s = c.in-Some.ensures.steps in
    let o = handed_on c.in-Some.record s.0.0 (λ e. cc) (λ x k. k.met.0) s.0.2 in
    let k = c.loop-at.auto.list in
    let r = room c.args.file.now _ _ _ _ _ _ _ c.loop-at.invariant _ (rw o at s.0.1.1) in
    omega (arith, s.1)

pub loop-at-preserved : goal.loop-at-preserved
loop-at-preserved c =
    let s = c.in-Some.ensures.steps in
    let o = handed_on c.in-Some.record s.0.0 (λ e. cc) (λ x k. k.met.0) s.0.2 in
    rw (s.1, s.2) (goes_on c.args.file.now _ _ _ _ _ _ _ c.loop-at.invariant _ (rw o at s.0.1.1))

pub returns : goal.returns
returns c =
    let s = c.in-None.ensures.steps in
    let next = ended c.args.file.now _ _ _ _ _ _ _ c.loop-at.invariant _ s.0.0 (λ x k. k.met.0) s.0.2 s.0.1.1 in
    λ t rs reads. done c.args.file.now _ _ _ _ _ _ _ c.loop-at.invariant t rs reads next
