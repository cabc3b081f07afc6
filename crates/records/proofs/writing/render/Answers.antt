use Rattle.std.proofs.Common.{get_or, arith}
use Rattle.records.proofs.Texts.{line_more, number_added, five_digits}
use Rattle.records.proofs.writing.render.Goals as goal

pub push_number-requires : goal.push_number-requires
push_number-requires c =
    let e = five_digits (get_or c.args.numbers.now c.loop-n.n-index 0) (let f = c.type_inv.numbers c.loop-n.n-index in omega arith) in
    omega (arith, c.push-in-loop-n.ensures.len, c.loop-n.invariant.1, c.requires, c.loop-n-test.true)

pub loop-n-preserved : goal.loop-n-preserved
loop-n-preserved c =
    let e = five_digits (get_or c.args.numbers.now c.loop-n.n-index 0) (let f = c.type_inv.numbers c.loop-n.n-index in omega arith) in
    let t = number_added c.loop-n.line.items c.push-in-loop-n.new.self.items c.push_number.new.line.items (get_or c.args.numbers.now c.loop-n.n-index 0) c.push-in-loop-n.ensures.items c.push_number.ensures.text in
    (line_more c.args.letter c.args.numbers.now c.loop-n.n-index _ _ c.loop-n-test.true c.loop-n.invariant.0 t, omega (arith, c.push-in-loop-n.ensures.len, c.push_number.ensures.len, c.loop-n.invariant.1))
