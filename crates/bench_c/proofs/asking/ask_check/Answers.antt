use Rattle.std.proofs.Common.{◌∙◌, rules}
use Rattle.bench_c.proofs.Again.{check_again, stands_suffice}
use Rattle.bench_c.proofs.asking.ask_check.Goals as goal

pub loop-preserved : goal.loop-preserved
loop-preserved g c =
    let a = c.loop.auto in
    let b = c.check-given.auto in (
      check_again _ _ _ _ _ _ _ _ _ _ _ _ _ _ (a.allowed ∙ b.allowed) (a.numbers ∙ b.numbers) a.load (a.work ∙ b.work) c.loop.invariant.0 c.check-given-in-loop.ensures.checks,
      c.check-given-in-loop.ensures.cleared,
    )

pub tell_load-requires-clause-stands : goal.tell_load-requires-clause-stands
tell_load-requires-clause-stands g c =
    stands_suffice (g.N.Network.meaning c.args.net.now) _ _ _ _ _ _ _ _ _ _ c.loop.invariant.0 (search rules) (search rules)
