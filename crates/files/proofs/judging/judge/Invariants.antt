use Rattle.files.proofs.LineByLine.{Upto}
use Rattle.files.proofs.judging.judge.Given as goal

abbrev pub invariant-loop-record : goal.invariant-loop-record
invariant-loop-record l = Upto l.file l.size l.records l.record-iterator.passed l.record-iterator.left
