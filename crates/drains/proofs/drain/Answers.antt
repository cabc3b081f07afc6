use Rattle.std.proofs.Common.{rules, refl, length}
use Rattle.checks.proofs.Verdicts.{items_suffice, rooms_suffice}
use Rattle.drains.proofs.Draining.{drained, filled_blocked, filled_free, is_free, lowering, none_greater}
use Rattle.drains.proofs.Secrecy.{drain_secret}
use Rattle.drains.proofs.Standing.{load_allowed, not_allowed}
use Rattle.drains.proofs.drain.Goals as goal

pub returns-in_err-numbering-clause-drains : goal.returns-in_err-numbering-clause-drains
returns-in_err-numbering-clause-drains g c =
    let few = items_suffice (g.N.Network.meaning c.args.net.now) (g.N.Network.conditions c.args.net.now) c.trace.new.allowed (length c.args.numbers.now) (length c.trace.new.work) (search rules) (search rules) in
    absurd (cc (few, c.in_err-numbering.ensures.numbers.1))

pub returns-then-numbering-gt0-clause-drains : goal.returns-then-numbering-gt0-clause-drains
returns-then-numbering-gt0-clause-drains g c = (
  rooms_suffice (g.N.Network.meaning c.args.net.now) c.args.allowed.now c.args.numbers.now c.args.load.now (length c.args.work.now) (search rules) (search rules) (search rules) (search rules),
  filled_blocked c.in_ok-trace.ensures.traces.1 c.in_ok-numbering.ensures.numbers.1 c.if-numbering-gt0.true,
  refl,
)

pub returns-then-not-is_allowed_load-clause-drains : goal.returns-then-not-is_allowed_load-clause-drains
returns-then-not-is_allowed_load-clause-drains g c = (
  rooms_suffice (g.N.Network.meaning c.args.net.now) c.args.allowed.now c.args.numbers.now c.args.load.now (length c.args.work.now) (search rules) (search rules) (search rules) (search rules),
  filled_free c.in_ok-trace.ensures.traces.1 c.in_ok-numbering.ensures.numbers.1 c.if-numbering-gt0.false,
  not_allowed (g.N.Network.conditions c.args.net.now) c.in_ok-trace.ensures.traces.1 c.args.load.now c.is_allowed_load.result c.is_allowed_load.ensures (search rules),
  refl,
)

pub empty-requires-clause-lowering : goal.empty-requires-clause-lowering
empty-requires-clause-lowering g c =
    lowering (g.N.Network.conditions c.args.net.now) c.in_ok-trace.ensures.traces.1 c.in_ok-numbering.ensures.numbers.1 (is_free c.in_ok-trace.ensures.traces.1 c.in_ok-numbering.ensures.numbers.1 c.if-numbering-gt0.false) (search rules)

pub empty-requires-clause-allowed : goal.empty-requires-clause-allowed
empty-requires-clause-allowed g c =
    load_allowed (g.N.Network.conditions c.args.net.now) c.in_ok-trace.ensures.traces.1 c.args.load.now c.is_allowed_load.result c.is_allowed_load.ensures (search rules)

pub empty-requires-clause-greatest : goal.empty-requires-clause-greatest
empty-requires-clause-greatest g c = none_greater c.in_ok-trace.ensures.traces.1 c.in_ok-numbering.ensures.numbers.1 c.if-numbering-gt0.false

pub returns-clause-drains : goal.returns-clause-drains
returns-clause-drains g c =
    let allowed = load_allowed (g.N.Network.conditions c.args.net.now) c.in_ok-trace.ensures.traces.1 c.args.load.now c.is_allowed_load.result c.is_allowed_load.ensures (search rules) in
    let low = lowering (g.N.Network.conditions c.args.net.now) c.in_ok-trace.ensures.traces.1 c.in_ok-numbering.ensures.numbers.1 (is_free c.in_ok-trace.ensures.traces.1 c.in_ok-numbering.ensures.numbers.1 c.if-numbering-gt0.false) (search rules) in (
      rooms_suffice (g.N.Network.meaning c.args.net.now) c.args.allowed.now c.args.numbers.now c.args.load.now (length c.args.work.now) (search rules) (search rules) (search rules) (search rules),
      filled_free c.in_ok-trace.ensures.traces.1 c.in_ok-numbering.ensures.numbers.1 c.if-numbering-gt0.false,
      allowed,
      drained (g.N.Network.conditions c.args.net.now) low allowed c.empty.ensures.called c.empty.ensures.emptied,
    )

pub returns-in_err-check-clause-secret : goal.returns-in_err-check-clause-secret
returns-in_err-check-clause-secret g c = drain_secret (g.N.Network.conditions c.args.net.now) c.args.allowed.now c.args.numbers.now c.args.load.now

pub returns-in_err-check-2-clause-secret : goal.returns-in_err-check-2-clause-secret
returns-in_err-check-2-clause-secret g c = drain_secret (g.N.Network.conditions c.args.net.now) c.args.allowed.now c.args.numbers.now c.args.load.now

pub returns-in_err-check-3-clause-secret : goal.returns-in_err-check-3-clause-secret
returns-in_err-check-3-clause-secret g c = drain_secret (g.N.Network.conditions c.args.net.now) c.args.allowed.now c.args.numbers.now c.args.load.now

pub returns-in_err-check-4-clause-secret : goal.returns-in_err-check-4-clause-secret
returns-in_err-check-4-clause-secret g c = drain_secret (g.N.Network.conditions c.args.net.now) c.args.allowed.now c.args.numbers.now c.args.load.now

pub returns-in_err-trace-clause-secret : goal.returns-in_err-trace-clause-secret
returns-in_err-trace-clause-secret g c = drain_secret (g.N.Network.conditions c.args.net.now) c.args.allowed.now c.args.numbers.now c.args.load.now

pub returns-in_err-numbering-clause-secret : goal.returns-in_err-numbering-clause-secret
returns-in_err-numbering-clause-secret g c = drain_secret (g.N.Network.conditions c.args.net.now) c.args.allowed.now c.args.numbers.now c.args.load.now

pub returns-then-numbering-gt0-clause-secret : goal.returns-then-numbering-gt0-clause-secret
returns-then-numbering-gt0-clause-secret g c = drain_secret (g.N.Network.conditions c.args.net.now) c.args.allowed.now c.args.numbers.now c.args.load.now

pub returns-then-not-is_allowed_load-clause-secret : goal.returns-then-not-is_allowed_load-clause-secret
returns-then-not-is_allowed_load-clause-secret g c = drain_secret (g.N.Network.conditions c.args.net.now) c.args.allowed.now c.args.numbers.now c.args.load.now

pub returns-clause-secret : goal.returns-clause-secret
returns-clause-secret g c = drain_secret (g.N.Network.conditions c.args.net.now) c.args.allowed.now c.args.numbers.now c.args.load.now
