use Rattle.std.proofs.Common.{slice_index}
use Rattle.numbering.proofs.Looking.{least_more}
use Rattle.numbering.proofs.walks.look_at_slot.Goals as goal

pub loop-way-preserved : goal.loop-way-preserved
loop-way-preserved g c =
    let f = slice_index c.args.numbers.now in
    rw c.min-least.ensures (least_more f c.loop-way.yielded c.loop-way.least c.in-Some.way c.loop-way.invariant c.if-not-is_settled.ensures)
