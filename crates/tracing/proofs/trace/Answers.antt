use Rattle.tracing.proofs.Secrecy.{trace_secret}
use Rattle.tracing.proofs.trace.Goals as goal

pub returns-in_err-check-clause-secret : goal.returns-in_err-check-clause-secret
returns-in_err-check-clause-secret g c = trace_secret (g.N.Network.conditions c.args.net.now) c.args.allowed.now

pub returns-in_err-check-2-clause-secret : goal.returns-in_err-check-2-clause-secret
returns-in_err-check-2-clause-secret g c = trace_secret (g.N.Network.conditions c.args.net.now) c.args.allowed.now

pub returns-clause-secret : goal.returns-clause-secret
returns-clause-secret g c = trace_secret (g.N.Network.conditions c.args.net.now) c.args.allowed.now
