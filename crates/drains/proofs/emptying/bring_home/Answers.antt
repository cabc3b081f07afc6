use Rattle.std.proofs.Common.{◌≡◌, None, rules, arith, slice_index, sym, ◌∙◌}
use Rattle.drains.proofs.Steps.{advance_lowers}
use Rattle.drains.proofs.Walking.{few_calls, walk_starts, walk_first, walk_more, walk_ends}
use Rattle.drains.proofs.emptying.bring_home.Goals as goal

pub loop-place-init : goal.loop-place-init
loop-place-init g c = walk_starts (g.N.Network.meaning c.args.net.now) (slice_index c.args.numbers.now) c.args.load.now c.args.channel c.requires.channel c.requires.allowed c.requires.cleared

pub advance-here-requires-clause-allowed : goal.advance-here-requires-clause-allowed
advance-here-requires-clause-allowed g c =
    c.loop-place.invariant.allowed _ _ (c.loop-place.invariant.inside, sym c.place_in.ensures ∙ c.in-Some.is)

pub advance-here-requires-clause-first : goal.advance-here-requires-clause-first
advance-here-requires-clause-first g c =
    walk_first (g.N.Network.meaning c.args.net.now) (slice_index c.args.numbers.now) c.args.load.now c.loop-place.load c.args.channel c.loop-place.here c.in-Some.place c.loop-place.calls c.loop-place.invariant (c.loop-place.invariant.inside, sym c.place_in.ensures ∙ c.in-Some.is)

pub overflow_add-calls : goal.overflow_add-calls
overflow_add-calls g c =
    let few = few_calls (g.N.Network.meaning c.args.net.now) (g.N.Network.conditions c.args.net.now) c.args.numbers.now c.args.load.now c.loop-place.load c.loop-place.calls c.requires.lowering c.loop-place.invariant.called in
    omega (arith, few)

pub loop-place-smaller : goal.loop-place-smaller
loop-place-smaller g c =
    let lower = advance_lowers (g.N.Network.meaning c.args.net.now) (g.N.Network.conditions c.args.net.now) (slice_index c.args.numbers.now) c.loop-place.load c.advance-here.new.load c.loop-place.here c.in-Some.place c.advance-here.result c.advance-here.ensures in
    omega (arith, lower)

pub loop-place-preserved : goal.loop-place-preserved
loop-place-preserved g c =
    walk_more (g.N.Network.meaning c.args.net.now) (slice_index c.args.numbers.now) c.args.load.now (g.N.Network.conditions c.args.net.now) c.loop-place.load c.advance-here.new.load c.args.channel c.loop-place.here c.in-Some.place c.advance-here.result c.loop-place.calls c.loop-place.invariant c.advance-here.ensures

pub returns-clause-cleared : goal.returns-clause-cleared
returns-clause-cleared g c =
    let none : c.place_in.result ≡ None = search rules in
    walk_ends (g.N.Network.meaning c.args.net.now) (slice_index c.args.numbers.now) c.args.load.now c.loop-place.load c.args.channel c.loop-place.here c.loop-place.calls c.loop-place.invariant (sym c.place_in.ensures ∙ none)
