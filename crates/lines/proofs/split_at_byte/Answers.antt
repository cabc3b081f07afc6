use Rattle.lines.proofs.Laws.{lacks_at_all, lacks_in_front}
use Rattle.std.proofs.Common.{rules}
use Rattle.lines.proofs.split_at_byte.Goals as goal

pub returns-then-byte-stop-clause-before : goal.returns-then-byte-stop-clause-before
returns-then-byte-stop-clause-before c = lacks_in_front c.args.stop c.loop-at.at c.args.bytes.now c.loop-at.auto.at-end c.loop-at.invariant

pub returns-clause-before : goal.returns-clause-before
returns-clause-before c = lacks_at_all c.args.stop c.loop-at.at c.args.bytes.now (search rules) c.loop-at.invariant
