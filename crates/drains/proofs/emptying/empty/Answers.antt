use Rattle.std.proofs.Common.{◌≡◌, ◌+◌, arith, slice_index, ap, sym, ◌∙◌}
use Rattle.drains.proofs.Sweeping.{sweep_starts, sweep_over, sweep_home, sweep_next, sweep_ends}
use Rattle.drains.proofs.Walking.{few_calls}
use Rattle.drains.proofs.emptying.empty.Goals as goal
use Rattle.drains.proofs.emptying.empty.Goals.{then-numbers-from, else-numbers-from}

pub loop-number-init : goal.loop-number-init
loop-number-init g c = sweep_starts (g.N.Network.meaning c.args.net.now) (slice_index c.args.numbers.now) c.args.load.now c.requires.allowed

pub overflow_add-calls : goal.overflow_add-calls
overflow_add-calls g c =
    let n = g.N.Network.meaning c.args.net.now in
    let ok = g.N.Network.conditions c.args.net.now in
    let before = few_calls n ok c.args.numbers.now c.args.load.now c.loop-channel.load c.loop-channel.calls c.requires.lowering c.loop-channel.invariant.called in
    let more = few_calls n ok c.args.numbers.now c.loop-channel.load c.bring_home-calls.new.load c.bring_home-calls.result c.requires.lowering c.bring_home-calls.ensures.called in
    omega (arith, before, more)

pub loop-channel-preserved : goal.loop-channel-preserved
loop-channel-preserved g c =
    let n = g.N.Network.meaning c.args.net.now in
    let number = slice_index c.args.numbers.now in
    let here : slice_index c.args.numbers.now c.from.result ≡ slice_index c.args.numbers.now c.loop-channel.channel = ap (slice_index c.args.numbers.now) c.from.ensures in
    elim c.if-numbers-from.branch [
      | then-numbers-from w ↦ rw (w.load-is, w.calls-is) (sweep_home n number c.args.load.now (g.N.Network.conditions c.args.net.now) c.loop-channel.load w.bring_home-calls.new.load c.loop-number.number c.loop-channel.channel c.loop-channel.calls w.bring_home-calls.result c.loop-channel.invariant (sym here ∙ w.if-numbers-from.true) w.bring_home-calls.ensures.called w.bring_home-calls.ensures.cleared)
      | else-numbers-from w ↦ rw (w.load-is, w.calls-is) (sweep_over n number c.args.load.now c.loop-channel.load c.loop-number.number c.loop-channel.channel c.loop-channel.calls c.loop-channel.invariant (λ e. w.if-numbers-from.false (here ∙ e)))
    ]

pub returns-2-clause-emptied : goal.returns-2-clause-emptied
returns-2-clause-emptied g c =
    let n = g.N.Network.meaning c.args.net.now in
    let number = slice_index c.args.numbers.now in
    let all : c.loop-channel.channel ≡ n.channels = omega (arith, c.channels-channel-end.ensures, c.loop-channel-test.false, c.loop-channel.auto.channel-end) in
    sweep_ends n number c.args.load.now c.loop-channel.load (c.loop-number.number + 1) c.loop-channel.calls (sweep_next n number c.args.load.now c.loop-channel.load c.loop-number.number c.loop-channel.calls (rw all at c.loop-channel.invariant))
    (λ e inside. let low = c.requires.greatest e inside in omega (arith, low))
