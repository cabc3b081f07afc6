use Rattle.std.proofs.Common.{◌≢◌, arith, ◌∙◌, sym}
use Rattle.networks.specs.Allowed.{said}
use Rattle.numbering.proofs.Settling.{settled_numbered, settled_open}
use Rattle.numbering.proofs.rounds.settle.Goals as goal

pub returns-then-slot-slots : goal.returns-then-slot-slots
returns-then-slot-slots g c =
    let s = g.S.ReleaseSystem.meaning c.args.system.now (said c.args.allowed.now) in
    let ok = g.S.ReleaseSystem.conditions c.args.system.now (said c.args.allowed.now) in
    let passed = rw c.passed_slots-from.ensures at c.first_unmet-slot.ensures in
    settled_numbered s ok c.args.numbers.now c.args.item c.args.round c.first_unmet-slot.result c.requires.words c.requires.early c.requires.open passed (c.if-slot-slots.true ∙ c.slots.ensures (said c.args.allowed.now))

pub returns : goal.returns
returns g c =
    let s = g.S.ReleaseSystem.meaning c.args.system.now (said c.args.allowed.now) in
    let ok = g.S.ReleaseSystem.conditions c.args.system.now (said c.args.allowed.now) in
    let passed = rw c.passed_slots-from.ensures at c.first_unmet-slot.ensures in
    let ne : c.first_unmet-slot.result ≢ s.slots = λ e. c.if-slot-slots.false (e ∙ sym (c.slots.ensures (said c.args.allowed.now))) in
    rw c.open_word.ensures (settled_open s ok c.args.numbers.now c.args.item c.args.round c.first_unmet-slot.result c.requires.words c.requires.early c.requires.open passed (omega (arith, c.first_unmet-slot.ensures.inside, ne)))
