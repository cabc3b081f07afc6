use Rattle.std.proofs.Common.{rules, length}
use Rattle.checks.proofs.Secrecy.{check_secret}
use Rattle.checks.proofs.Verdicts.{rooms_suffice, words_suffice, checked}
use Rattle.checks.proofs.check.Goals as goal

pub returns-in_err-numbering-clause-checks : goal.returns-in_err-numbering-clause-checks
returns-in_err-numbering-clause-checks g c =
    absurd (words_suffice (g.N.Network.meaning c.args.net.now) (g.N.Network.conditions c.args.net.now) c.trace.new.allowed _ _ _ _ (search rules) (search rules) (search rules) c.in_err-numbering.ensures.numbers.1)

pub returns-clause-checks : goal.returns-clause-checks
returns-clause-checks g c =
    let n = g.N.Network.meaning c.args.net.now in (
      rooms_suffice n c.args.allowed.now c.args.numbers.now c.args.load.now (length c.args.work.now) (search rules) (search rules) (search rules) (search rules),
      checked (g.N.Network.conditions c.args.net.now) c.in_ok-trace.ensures.traces.1 c.in_ok-numbering.ensures.numbers.1 c.write_load.ensures.ours c.write_load.ensures.beyond c.verdict_on-verdict.result c.verdict_on-verdict.ensures,
    )

pub returns-in_err-check-clause-secret : goal.returns-in_err-check-clause-secret
returns-in_err-check-clause-secret g c = check_secret (g.N.Network.conditions c.args.net.now) c.args.allowed.now c.args.numbers.now c.args.load.now

pub returns-in_err-check-2-clause-secret : goal.returns-in_err-check-2-clause-secret
returns-in_err-check-2-clause-secret g c = check_secret (g.N.Network.conditions c.args.net.now) c.args.allowed.now c.args.numbers.now c.args.load.now

pub returns-in_err-check-3-clause-secret : goal.returns-in_err-check-3-clause-secret
returns-in_err-check-3-clause-secret g c = check_secret (g.N.Network.conditions c.args.net.now) c.args.allowed.now c.args.numbers.now c.args.load.now

pub returns-in_err-check-4-clause-secret : goal.returns-in_err-check-4-clause-secret
returns-in_err-check-4-clause-secret g c = check_secret (g.N.Network.conditions c.args.net.now) c.args.allowed.now c.args.numbers.now c.args.load.now

pub returns-in_err-numbering-clause-secret : goal.returns-in_err-numbering-clause-secret
returns-in_err-numbering-clause-secret g c = check_secret (g.N.Network.conditions c.args.net.now) c.args.allowed.now c.args.numbers.now c.args.load.now

pub returns-clause-secret : goal.returns-clause-secret
returns-clause-secret g c = check_secret (g.N.Network.conditions c.args.net.now) c.args.allowed.now c.args.numbers.now c.args.load.now
