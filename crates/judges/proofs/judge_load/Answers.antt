use Rattle.std.proofs.Common.{rules, length}
use Rattle.std.proofs.lemmas.Bool.{both_ways}
use Rattle.judges.specs.declared.LoadJudged.TheVariants.{Blocked, Offends, NoPacket}
use Rattle.judges.proofs.Judging.{blocked, judges_load}
use Rattle.judges.proofs.Secrecy.{load_secret}
use Rattle.judges.proofs.judge_load.Goals as goal

pub returns-in-Some-clause-judges : goal.returns-in-Some-clause-judges
returns-in-Some-clause-judges g c =
    judges_load (g.N.Network.conditions c.args.net.now) c.in_ok-trace.ensures.traces.1 c.args.load.now (length c.args.work.now) (search rules) (search rules) (search rules) (Offends c.in-Some.pair) c.in-Some.ensures

pub returns-then-has_packet-clause-judges : goal.returns-then-has_packet-clause-judges
returns-then-has_packet-clause-judges g c =
    let ok = g.N.Network.conditions c.args.net.now in
    let t = c.in_ok-trace.ensures.traces.1 in
    judges_load ok t c.args.load.now (length c.args.work.now) (search rules) (search rules) (search rules) Blocked (blocked ok t c.args.load.now c.in_default.ensures (c.has_packet.ensures.0 c.if-has_packet.true))

pub returns-clause-judges : goal.returns-clause-judges
returns-clause-judges g c =
    judges_load (g.N.Network.conditions c.args.net.now) c.in_ok-trace.ensures.traces.1 c.args.load.now (length c.args.work.now) (search rules) (search rules) (search rules) NoPacket (λ k holds. both_ways _ c.if-has_packet.false (c.has_packet.ensures.1 (k, holds)))

pub returns-in_err-check-clause-secret : goal.returns-in_err-check-clause-secret
returns-in_err-check-clause-secret g c = load_secret (g.N.Network.conditions c.args.net.now) c.args.allowed.now c.args.load.now

pub returns-in_err-check-2-clause-secret : goal.returns-in_err-check-2-clause-secret
returns-in_err-check-2-clause-secret g c = load_secret (g.N.Network.conditions c.args.net.now) c.args.allowed.now c.args.load.now

pub returns-in_err-check-3-clause-secret : goal.returns-in_err-check-3-clause-secret
returns-in_err-check-3-clause-secret g c = load_secret (g.N.Network.conditions c.args.net.now) c.args.allowed.now c.args.load.now

pub returns-in_err-trace-clause-secret : goal.returns-in_err-trace-clause-secret
returns-in_err-trace-clause-secret g c = load_secret (g.N.Network.conditions c.args.net.now) c.args.allowed.now c.args.load.now

pub returns-in-Some-clause-secret : goal.returns-in-Some-clause-secret
returns-in-Some-clause-secret g c = load_secret (g.N.Network.conditions c.args.net.now) c.args.allowed.now c.args.load.now

pub returns-then-has_packet-clause-secret : goal.returns-then-has_packet-clause-secret
returns-then-has_packet-clause-secret g c = load_secret (g.N.Network.conditions c.args.net.now) c.args.allowed.now c.args.load.now

pub returns-clause-secret : goal.returns-clause-secret
returns-clause-secret g c = load_secret (g.N.Network.conditions c.args.net.now) c.args.allowed.now c.args.load.now
