use Rattle.std.proofs.Common.{slice_index}
use Rattle.networks.specs.Allowed.{said}
use Rattle.numbering.proofs.Looking.{greatest_more}
use Rattle.numbering.proofs.walks.look_at_item.Goals as goal

pub loop-slot-preserved : goal.loop-slot-preserved
loop-slot-preserved g c =
    let s = g.S.ReleaseSystem.meaning c.args.system.now (said c.args.allowed.now) in
    let f = slice_index c.args.numbers.now in
    let x = c.in-Number.ensures in
    rw c.max-number.ensures (greatest_more s f c.args.item c.loop-slot.slot c.loop-slot.number c.in-Number.least c.loop-slot.invariant x.0 x.1 x.2)
