use Rattle.std.proofs.Common.{rules}
use Rattle.bench_loads.proofs.Putting.{puts_none, puts_accepted, puts_refused}
use Rattle.bench_loads.proofs.asking.put_each.Goals as goal
use Rattle.bench_loads.proofs.asking.put_each.Goals.{then-is_ok, else-is_ok}

pub loop-words-init : goal.loop-words-init
loop-words-init g c = puts_none _ _

pub loop-words-preserved : goal.loop-words-preserved
loop-words-preserved g c =
    elim c.if-is_ok.branch [
      | then-is_ok w ↦ puts_accepted _ _ _ _ _ _ _ _ _ _ c.loop-words-test.true c.loop-words.invariant c.put.ensures.does (search rules) w.accepted-is
      | else-is_ok w ↦ puts_refused _ _ _ _ _ _ _ _ _ _ c.loop-words-test.true c.loop-words.invariant c.put.ensures.does (search rules) w.accepted-is
    ]
