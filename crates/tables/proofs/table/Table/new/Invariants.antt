use Rattle.tables.proofs.ByRecord.{Midway}
use Rattle.tables.proofs.table.Table.new.Given as goal

abbrev pub invariant-loop-line : goal.invariant-loop-line
invariant-loop-line l = Midway l.fn.size l.records l.line-iterator.b.rest.now l.line-iterator.a.start l.table
