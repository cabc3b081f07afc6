use Rattle.std.proofs.Common.{length, refl, rules}
use Rattle.routes.proofs.Outcomes.{routed, rooms_suffice}
use Rattle.routes.proofs.Secrecy.{routes_secret}
use Rattle.routes.proofs.routes.Goals as goal

pub returns-clause-routes : goal.returns-clause-routes
returns-clause-routes g c = (
  rooms_suffice (g.N.Network.meaning c.args.net.now) (length c.args.allowed.now) (length c.args.numbers.now) (length c.args.work.now) (search rules) (search rules) (search rules),
  routed (g.N.Network.conditions c.args.net.now) c.in_ok-trace.ensures.traces.1 c.in_ok-numbering.ensures.numbers.1 _ refl refl,
)

pub returns-in_err-check-clause-secret : goal.returns-in_err-check-clause-secret
returns-in_err-check-clause-secret g c = routes_secret (g.N.Network.conditions c.args.net.now) c.args.allowed.now c.args.numbers.now

pub returns-in_err-check-2-clause-secret : goal.returns-in_err-check-2-clause-secret
returns-in_err-check-2-clause-secret g c = routes_secret (g.N.Network.conditions c.args.net.now) c.args.allowed.now c.args.numbers.now

pub returns-in_err-check-3-clause-secret : goal.returns-in_err-check-3-clause-secret
returns-in_err-check-3-clause-secret g c = routes_secret (g.N.Network.conditions c.args.net.now) c.args.allowed.now c.args.numbers.now

pub returns-in_err-numbering-clause-secret : goal.returns-in_err-numbering-clause-secret
returns-in_err-numbering-clause-secret g c = routes_secret (g.N.Network.conditions c.args.net.now) c.args.allowed.now c.args.numbers.now

pub returns-clause-secret : goal.returns-clause-secret
returns-clause-secret g c = routes_secret (g.N.Network.conditions c.args.net.now) c.args.allowed.now c.args.numbers.now
