use Rattle.std.proofs.Common.{arith}
use Rattle.networks.specs.Allowed.{said}
use Rattle.numbering.proofs.Stepping.{begin_step}
use Rattle.numbering.proofs.walks.step.Goals as goal

pub returns : goal.returns
returns g c =
    let s = g.S.ReleaseSystem.meaning c.args.system.now (said c.args.allowed.now) in
    let ok = g.S.ReleaseSystem.conditions c.args.system.now (said c.args.allowed.now) in
    let few = c.if-walk-gt0.false in
    begin_step s ok c.args.numbers.now c.args.path.now c.args.walk c.requires.words c.requires.list c.requires.walking few (omega (arith, c.requires.more, few, c.requires.list)) c.if-numbers-walk.false
