use Rattle.std.proofs.Common.{length}
use Rattle.networks.specs.Cleared.{AllZero}
use Rattle.checks.specs.Checks.{Checks}
use Rattle.bench_c.proofs.asking.ask_check.Given as goal

abbrev pub invariant-loop : goal.invariant-loop
invariant-loop g l = Checks (g.N.Network.meaning l.net) l.fn.allowed l.fn.numbers l.initial.load (length l.fn.work) l.given l.allowed l.numbers l.load × AllZero l.work
