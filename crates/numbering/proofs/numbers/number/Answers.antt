use Rattle.std.proofs.Common.{◌≡◌, length, rules}
use Rattle.networks.specs.Allowed.{said}
use Rattle.numbering.proofs.Outcome.{outcome_whole}
use Rattle.numbering.proofs.Secrecy.{number_secret}
use Rattle.numbering.proofs.numbers.number.Goals as goal

pub returns-clause-numbers : goal.returns-clause-numbers
returns-clause-numbers g c =
    let s = g.S.ReleaseSystem.meaning c.args.system.now (said c.args.allowed.now) in
    let ok = g.S.ReleaseSystem.conditions c.args.system.now (said c.args.allowed.now) in
    let items : c.items-items.result ≡ s.items = c.items-items.ensures (said c.args.allowed.now) in
    let len : length c.number_items.new.numbers ≡ s.items = search rules in
    (search rules, rw items (outcome_whole s ok c.args.numbers.now c.number_items.new.numbers c.number_items.result len (rw items at c.number_items.ensures)))

pub returns-in_err-check-clause-secret : goal.returns-in_err-check-clause-secret
returns-in_err-check-clause-secret g c = number_secret (g.S.ReleaseSystem.meaning c.args.system.now (said c.args.allowed.now)) c.args.numbers.now

pub returns-in_err-check-2-clause-secret : goal.returns-in_err-check-2-clause-secret
returns-in_err-check-2-clause-secret g c = number_secret (g.S.ReleaseSystem.meaning c.args.system.now (said c.args.allowed.now)) c.args.numbers.now

pub returns-clause-secret : goal.returns-clause-secret
returns-clause-secret g c = number_secret (g.S.ReleaseSystem.meaning c.args.system.now (said c.args.allowed.now)) c.args.numbers.now
