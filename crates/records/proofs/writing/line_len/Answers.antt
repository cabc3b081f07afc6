use Rattle.std.proofs.Common.{arith}
use Rattle.records.proofs.Texts.{length-text-step, length-text-end}
use Rattle.records.proofs.writing.line_len.Goals as goal

pub loop-n-preserved : goal.loop-n-preserved
loop-n-preserved c = let e = length-text-step c.args.numbers.now c.loop-n.n-index c.loop-n-test.true in (omega arith, omega arith)

pub returns : goal.returns
returns c =
    let e = length-text-end c.args.numbers.now c.loop-n.n-index c.loop-n-test.false in
    record { value = omega arith; bound = omega arith }
