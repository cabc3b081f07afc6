use Rattle.lines.proofs.Numerals.{Upto}
use Rattle.lines.proofs.read_number.Given as goal

abbrev pub invariant-loop-byte : goal.invariant-loop-byte
invariant-loop-byte l = Upto l.field l.byte-index l.number
