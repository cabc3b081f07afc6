-- The parts by which the faults of tables and of calls are told.
use Rattle.std.specs.Prelude.{ℕ}
use Rattle.records.specs.declared.faults.Layer.TheVariants.{Table, Study}
use Rattle.records.specs.Faults.{parts_of}
use Rattle.records.specs.declared.faults.Parts.{Parts}
use Rattle.networks.specs.declared.faults.Buffer.{Buffer}
use Rattle.networks.specs.declared.faults.Buffer.TheVariants.{Allowed, Numbers, Load, Work, File}
use Rattle.networks.specs.declared.faults.TableFault.{TableFault}
use Rattle.networks.specs.declared.faults.TableFault.TheVariants.{Text, SizeOutOfLimits, OutOfRange, NinthWay, TooManyRecords, NoMemory}
use Rattle.networks.specs.declared.faults.StudyFault.{StudyFault}
use Rattle.networks.specs.declared.faults.StudyFault.TheVariants as study

abbrev pub table_parts : TableFault → Parts
table_parts (Text f) = parts_of f
table_parts (SizeOutOfLimits field) = record { layer = Table; number = 15; line = 1; field = field }
table_parts (OutOfRange line field) = record { layer = Table; number = 16; line = line; field = field }
table_parts (NinthWay line) = record { layer = Table; number = 17; line = line; field = 0 }
table_parts (TooManyRecords line) = record { layer = Table; number = 18; line = line; field = 0 }
table_parts NoMemory = record { layer = Table; number = 19; line = 0; field = 0 }

-- the field by which a refusal names a buffer
abbrev pub field_of : Buffer → ℕ
field_of Allowed = 1
field_of Numbers = 2
field_of Load = 3
field_of Work = 4
field_of File = 5

abbrev pub study_parts : StudyFault → Parts
study_parts (study.Table f) = table_parts f
study_parts (study.Short b) = record { layer = Study; number = 20; line = 0; field = field_of b }
study_parts study.SpidergonSize = record { layer = Study; number = 21; line = 0; field = 0 }
