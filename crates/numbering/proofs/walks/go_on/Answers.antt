use Rattle.networks.specs.Allowed.{said}
use Rattle.numbering.proofs.Stepping.{number_step, held_step, wait_step, circle_inside, return_step}
use Rattle.numbering.proofs.walks.go_on.Goals as goal

pub returns-in-Number : goal.returns-in-Number
returns-in-Number g c =
    let s = g.S.ReleaseSystem.meaning c.args.system.now (said c.args.allowed.now) in
    let ok = g.S.ReleaseSystem.conditions c.args.system.now (said c.args.allowed.now) in
    rw c.max.ensures (number_step s ok c.args.numbers.now c.args.path.now c.args.walk c.requires.words c.requires.list c.requires.walking c.requires.depth c.in-Number.number c.in-Number.ensures)

pub returns-in-Held : goal.returns-in-Held
returns-in-Held g c =
    let s = g.S.ReleaseSystem.meaning c.args.system.now (said c.args.allowed.now) in
    let ok = g.S.ReleaseSystem.conditions c.args.system.now (said c.args.allowed.now) in
    held_step s ok c.args.numbers.now c.args.path.now c.args.walk c.requires.words c.requires.list c.requires.walking c.requires.depth c.in-Held.ensures

pub hold-requires : goal.hold-requires
hold-requires g c =
    let s = g.S.ReleaseSystem.meaning c.args.system.now (said c.args.allowed.now) in
    let ok = g.S.ReleaseSystem.conditions c.args.system.now (said c.args.allowed.now) in
    circle_inside s ok c.args.numbers.now c.args.path.now c.args.walk c.requires.words c.requires.list c.requires.walking c.requires.depth c.in-Waits.way c.in_ok-from-in-Waits.from c.in_ok-from-in-Waits.ensures

pub returns-then-numbers-way : goal.returns-then-numbers-way
returns-then-numbers-way g c =
    let s = g.S.ReleaseSystem.meaning c.args.system.now (said c.args.allowed.now) in
    let ok = g.S.ReleaseSystem.conditions c.args.system.now (said c.args.allowed.now) in
    return_step s ok c.args.numbers.now c.args.path.now c.args.walk c.requires.words c.requires.list c.requires.walking c.requires.depth c.in-Waits.way c.in_ok-from-in-Waits.from c.in-Waits.only c.hold.new.numbers c.hold.auto.numbers c.in-Waits.ensures c.if-not-only.false c.in_ok-from-in-Waits.ensures c.hold.ensures

pub returns-else-numbers-way : goal.returns-else-numbers-way
returns-else-numbers-way g c =
    let s = g.S.ReleaseSystem.meaning c.args.system.now (said c.args.allowed.now) in
    let ok = g.S.ReleaseSystem.conditions c.args.system.now (said c.args.allowed.now) in
    rw c.entered.ensures (wait_step s ok c.args.numbers.now c.args.path.now c.args.walk c.requires.words c.requires.list c.requires.walking c.requires.depth c.in-Waits.way c.in-Waits.only c.in-Waits.ensures c.if-numbers-way.false)
