-- The parts by which a fault is told.
use Rattle.std.specs.Prelude.{◌≡◌, ℕ, List, ◌++◌, codes, decimal}
use Rattle.records.specs.declared.faults.Layer.{Layer}
use Rattle.records.specs.declared.faults.Layer.TheVariants.{Text, Table, Study}
use Rattle.records.specs.declared.faults.Parts.{Parts}
use Rattle.records.specs.declared.faults.TextFault.{TextFault}
use Rattle.records.specs.declared.faults.TextFault.TheVariants.{NoSize, UnknownLetter, WrongShape, NoNumber, SizeAgain}

-- the word for a layer
abbrev pub word_of : Layer → List ℕ
word_of Text = codes "text"
word_of Table = codes "table"
word_of Study = codes "study"

abbrev pub parts_of : TextFault → Parts
parts_of NoSize = record { layer = Text; number = 10; line = 1; field = 1 }
parts_of (UnknownLetter line) = record { layer = Text; number = 11; line = line; field = 1 }
parts_of (WrongShape line) = record { layer = Text; number = 12; line = line; field = 0 }
parts_of (NoNumber line field) = record { layer = Text; number = 13; line = line; field = field }
parts_of (SizeAgain line) = record { layer = Text; number = 14; line = line; field = 1 }

-- No other fault of a text has the parts of this one.
abbrev pub OwnParts : TextFault → Type 0
OwnParts f = (g : TextFault) → parts_of g ≡ parts_of f → g ≡ f

-- a fault as it is printed for people
abbrev pub told : Parts → List ℕ
told p = codes "fault " ++ (word_of p.layer ++ (codes " " ++ (decimal p.number ++ (codes ", line " ++ (decimal p.line ++ (codes ", field " ++ decimal p.field))))))
