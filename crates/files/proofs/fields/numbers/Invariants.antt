use Rattle.lines.specs.Pieces.{fields_left}
use Rattle.files.proofs.FirstNumbers.{Numbered}
use Rattle.files.proofs.fields.numbers.Given as goal

abbrev pub invariant-loop-at : goal.invariant-loop-at
invariant-loop-at g l = Numbered (fields_left (λ x. x.now) l.rest) l.numbers g.row.N l.at l.fields.passed (fields_left (λ x. x) l.fields.rest)
