use Rattle.std.proofs.Common.{◌∙◌}
use Rattle.bench_c.proofs.Again.{routes_again}
use Rattle.bench_c.proofs.asking.ask_routes.Goals as goal

pub loop-preserved : goal.loop-preserved
loop-preserved g c =
    let a = c.loop.auto in
    let b = c.routes-given.auto in (
      routes_again _ _ _ _ _ _ _ _ _ _ _ (a.allowed ∙ b.allowed) (a.numbers ∙ b.numbers) (a.work ∙ b.work) c.loop.invariant.0 c.routes-given-in-loop.ensures.routes,
      c.routes-given-in-loop.ensures.cleared,
    )
