use Rattle.std.proofs.Common.{rules, length, slice_index}
use Rattle.judges.proofs.Judging.{said_of_lowest, judges_numbers}
use Rattle.judges.proofs.Secrecy.{numbers_secret}
use Rattle.judges.proofs.judge_numbers.Goals as goal

pub returns-clause-judges : goal.returns-clause-judges
returns-clause-judges g c =
    judges_numbers (g.N.Network.conditions c.args.net.now) c.in_ok-trace.ensures.traces.1 c.args.numbers.now (length c.args.work.now) (search rules) (search rules) (search rules) c.map_or.result
    (said_of_lowest (g.N.Network.meaning c.args.net.now) (slice_index c.args.numbers.now) c.lowest_need-lowest.result c.lowest_need-lowest.ensures c.map_or.result c.map_or.ensures)

pub returns-in_err-check-clause-secret : goal.returns-in_err-check-clause-secret
returns-in_err-check-clause-secret g c = numbers_secret (g.N.Network.conditions c.args.net.now) c.args.allowed.now c.args.numbers.now

pub returns-in_err-check-2-clause-secret : goal.returns-in_err-check-2-clause-secret
returns-in_err-check-2-clause-secret g c = numbers_secret (g.N.Network.conditions c.args.net.now) c.args.allowed.now c.args.numbers.now

pub returns-in_err-check-3-clause-secret : goal.returns-in_err-check-3-clause-secret
returns-in_err-check-3-clause-secret g c = numbers_secret (g.N.Network.conditions c.args.net.now) c.args.allowed.now c.args.numbers.now

pub returns-in_err-trace-clause-secret : goal.returns-in_err-trace-clause-secret
returns-in_err-trace-clause-secret g c = numbers_secret (g.N.Network.conditions c.args.net.now) c.args.allowed.now c.args.numbers.now

pub returns-clause-secret : goal.returns-clause-secret
returns-clause-secret g c = numbers_secret (g.N.Network.conditions c.args.net.now) c.args.allowed.now c.args.numbers.now
