use Rattle.std.proofs.Common.{length}
use Rattle.networks.specs.Cleared.{AllZero}
use Rattle.routes.specs.Outcomes.{RoutesGive}
use Rattle.bench_c.proofs.asking.ask_routes.Given as goal

abbrev pub invariant-loop : goal.invariant-loop
invariant-loop g l = RoutesGive (g.N.Network.meaning l.net) l.fn.allowed l.fn.numbers (length l.fn.work) l.given l.allowed l.numbers × AllZero l.work
