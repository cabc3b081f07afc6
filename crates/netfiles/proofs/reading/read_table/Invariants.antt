use Rattle.std.proofs.Common.{length}
use Rattle.netfiles.proofs.ByLine.{Both}
use Rattle.netfiles.proofs.reading.read_table.Given as goal

abbrev pub invariant-loop-record : goal.invariant-loop-record
invariant-loop-record l = Both l.file l.size l.records l.reader.passed l.reader.left l.table

abbrev pub decreases-loop-record : goal.decreases-loop-record
decreases-loop-record l = length l.reader.left
