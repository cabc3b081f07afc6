use Rattle.files.proofs.Copies.{Copying}
use Rattle.files.proofs.rewriting.rewrite.Given as goal

abbrev pub invariant-loop-record : goal.invariant-loop-record
invariant-loop-record l = Copying l.file l.record-iterator.passed l.record-iterator.left l.initial.out l.out l.initial.end l.end
