use Rattle.std.proofs.Common.{arith}
use Rattle.netfiles.proofs.Totals.{short_lines, length-lines, length-file}
use Rattle.netfiles.proofs.writing.text_len.Goals as goal

pub overflow_add-result : goal.overflow_add-result
overflow_add-result c = omega (arith, short_lines c.args.records.now c.requires.small, length-lines c.args.records.now)

pub returns : goal.returns
returns c = omega (arith, length-file c.args.size c.args.records.now, length-lines c.args.records.now)
