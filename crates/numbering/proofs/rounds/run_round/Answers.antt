use Rattle.std.proofs.Common.{◌≡◌, ◌<◌, true, false, Bool, slice_index, subst, rules}
use Rattle.networks.specs.Allowed.{said}
use Rattle.numbering.specs.Rounds.{Settled}
use Rattle.numbering.proofs.Rounding.{midway_start, midway_numbered, midway_kept}
use Rattle.numbering.proofs.rounds.run_round.Goals as goal
use Rattle.numbering.proofs.rounds.run_round.Goals.{then-not-settle, else-not-settle}

pub loop-position-preserved : goal.loop-position-preserved
loop-position-preserved g c =
    let s = g.S.ReleaseSystem.meaning c.args.system.now (said c.args.allowed.now) in
    let ok = g.S.ReleaseSystem.conditions c.args.system.now (said c.args.allowed.now) in
    let l = c.loop-position in
    let f = slice_index l.numbers in
    let h = slice_index c.settle.new.numbers in
    let item = slice_index l.list l.position in
    let below : l.position < c.args.end = c.loop-position-test.true in
    elim c.if-not-settle.branch [
      | then-not-settle w ↦
          let e : c.settle.result ≡ false = search rules in
          rw (w.list-is, w.kept-is) (midway_kept s ok c.args.round c.requires.early f h l.list l.kept l.position c.args.end l.invariant below (search rules) (subst (λ (b : Bool). Settled s f h c.args.round item b) e c.settle.ensures))
      | else-not-settle w ↦
          let e : c.settle.result ≡ true = search rules in
          rw (w.list-is, w.kept-is) (midway_numbered s ok c.args.round c.requires.early f h l.list l.kept l.position c.args.end l.invariant below (subst (λ (b : Bool). Settled s f h c.args.round item b) e c.settle.ensures))
    ]

pub loop-position-init : goal.loop-position-init
loop-position-init g c =
    let s = g.S.ReleaseSystem.meaning c.args.system.now (said c.args.allowed.now) in
    let ok = g.S.ReleaseSystem.conditions c.args.system.now (said c.args.allowed.now) in
    midway_start s ok c.args.round c.requires.early (slice_index c.args.numbers.now) c.args.list.now c.args.end c.requires.listing
