use Rattle.std.proofs.Common.{rules, length}
use Rattle.certificates.proofs.Certifying.{rooms_suffice, certified_in_turn}
use Rattle.certificates.proofs.Secrecy.{certify_secret}
use Rattle.certificates.proofs.certify.Goals as goal

pub returns-clause-certifies : goal.returns-clause-certifies
returns-clause-certifies g c = (
  rooms_suffice (g.N.Network.meaning c.args.net.now) (length c.args.allowed.now) (length c.args.numbers.now) (length c.args.load.now) (length c.args.longest.now) (length c.args.work.now) (search rules) (search rules) (search rules) (search rules) (search rules),
  certified_in_turn (g.N.Network.conditions c.args.net.now) c.in_ok-check-6.ensures.checks.1 c.in_ok-routes.ensures.routes.1 (search rules),
)

pub returns-in_err-check-clause-secret : goal.returns-in_err-check-clause-secret
returns-in_err-check-clause-secret g c = certify_secret (g.N.Network.conditions c.args.net.now) c.args.allowed.now c.args.numbers.now c.args.load.now c.args.longest.now

pub returns-in_err-check-2-clause-secret : goal.returns-in_err-check-2-clause-secret
returns-in_err-check-2-clause-secret g c = certify_secret (g.N.Network.conditions c.args.net.now) c.args.allowed.now c.args.numbers.now c.args.load.now c.args.longest.now

pub returns-in_err-check-3-clause-secret : goal.returns-in_err-check-3-clause-secret
returns-in_err-check-3-clause-secret g c = certify_secret (g.N.Network.conditions c.args.net.now) c.args.allowed.now c.args.numbers.now c.args.load.now c.args.longest.now

pub returns-in_err-check-4-clause-secret : goal.returns-in_err-check-4-clause-secret
returns-in_err-check-4-clause-secret g c = certify_secret (g.N.Network.conditions c.args.net.now) c.args.allowed.now c.args.numbers.now c.args.load.now c.args.longest.now

pub returns-in_err-check-5-clause-secret : goal.returns-in_err-check-5-clause-secret
returns-in_err-check-5-clause-secret g c = certify_secret (g.N.Network.conditions c.args.net.now) c.args.allowed.now c.args.numbers.now c.args.load.now c.args.longest.now

pub returns-in_err-check-6-clause-secret : goal.returns-in_err-check-6-clause-secret
returns-in_err-check-6-clause-secret g c = certify_secret (g.N.Network.conditions c.args.net.now) c.args.allowed.now c.args.numbers.now c.args.load.now c.args.longest.now

pub returns-in_err-routes-clause-secret : goal.returns-in_err-routes-clause-secret
returns-in_err-routes-clause-secret g c = certify_secret (g.N.Network.conditions c.args.net.now) c.args.allowed.now c.args.numbers.now c.args.load.now c.args.longest.now

pub returns-clause-secret : goal.returns-clause-secret
returns-clause-secret g c = certify_secret (g.N.Network.conditions c.args.net.now) c.args.allowed.now c.args.numbers.now c.args.load.now c.args.longest.now
