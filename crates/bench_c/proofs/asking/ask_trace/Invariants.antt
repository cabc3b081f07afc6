use Rattle.std.proofs.Common.{length}
use Rattle.networks.specs.Cleared.{AllZero}
use Rattle.tracing.specs.Traces.{Traces}
use Rattle.bench_c.proofs.asking.ask_trace.Given as goal

abbrev pub invariant-loop : goal.invariant-loop
invariant-loop g l = Traces (g.N.Network.meaning l.net) l.fn.allowed (length l.fn.work) l.given l.allowed × AllZero l.work
