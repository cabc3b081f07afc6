use Rattle.std.proofs.Common.{take}
use Rattle.records.specs.Writes.{Wrote}
use Rattle.netfiles.proofs.Totals.{record_lines}
use Rattle.netfiles.proofs.writing.write_records.Given as goal

abbrev pub invariant-loop-record : goal.invariant-loop-record
invariant-loop-record l = Wrote (record_lines (take l.record-index l.records)) l.at l.initial.file l.file l.end
