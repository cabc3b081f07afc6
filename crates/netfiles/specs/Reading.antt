-- Reading a network file into a lent list of records.
use Rattle.std.specs.Prelude.{◌≡◌, ℕ, ◌+◌, ◌<◌, ◌≤◌, ◌⊎◌, List, [], ◌∷◌, ◌++◌, length, take, drop, Ok, Err, Result}
use Rattle.lines.specs.Pieces.{RawLine, lines_of}
use Rattle.records.specs.declared.faults.TextFault.{TextFault}
use Rattle.records.specs.declared.faults.TextFault.TheVariants.{NoSize}
use Rattle.records.specs.declared.Record.{Record}
use Rattle.records.specs.declared.Size.{Size}
use Rattle.records.specs.Rendering.{file_text}
use Rattle.records.specs.Writes.{Wrote}
use Rattle.files.specs.declared.judging.Summary.{Summary}
use Rattle.files.specs.Says.{SaysSize, SayRecords, SaysRecord, SizeFault, RecordFault, Reads}
use Rattle.networks.specs.declared.faults.TableFault.{TableFault}
use Rattle.networks.specs.declared.faults.TableFault.TheVariants.{Text, TooManyRecords, NoMemory}
use Rattle.tables.specs.Drawn.{drawn}
use Rattle.tables.specs.Makes.{limit, SizeFits, SizeMisfit, Fit, Misfit}
use Rattle.tables.specs.Meaning.{meaning_of}
use Rattle.netfiles.specs.declared.reading.NetworkFile.{NetworkFile}

-- The file says a size and records that make a table, and there is room for them.
pub record Accepted (file : List ℕ) (room : ℕ) (s : Size) (rs : List Record) : Type 0 where
  pub reads : Reads file s rs
  pub size : SizeFits s
  pub fit : Fit s rs
  pub few : length rs ≤ limit room

-- The file says some size and records, and there is room for them.
pub record Storable (file : List ℕ) (room : ℕ) : Type 0 where
  pub size : Size
  pub records : List Record
  pub reads : Reads file size records
  pub few : length records ≤ room

-- The fault of a file's first line: that of its text, or the size that it says is outside the limits.
pub data FirstLine (l : RawLine) (f : TableFault) : Type 0 where
  text : (t : TextFault) → SizeFault l t → f ≡ Text t → FirstLine l f
  size : (s : Size) → SaysSize l s → SizeMisfit s f → FirstLine l f

-- The fault of a later line, the n-th of the file, behind lines that say the records rs: that of its text, or the record
-- that it says does not fit.
pub data LaterLine (s : Size) (rs : List Record) (n : ℕ) (l : RawLine) (f : TableFault) : Type 0 where
  text : (t : TextFault) → RecordFault n l t → f ≡ Text t → LaterLine s rs n l f
  misfit : (r : Record) → SaysRecord l r → Misfit (drawn s rs) n r f → LaterLine s rs n l f

-- The fault of a file is that of its first faulty line. Only where no line has one there may be too many records, which is
-- told at the first that finds no room. An empty file lacks the size.
pub data Refused (file : List ℕ) (room : ℕ) (f : TableFault) : Type 0 where
  empty : lines_of file ≡ [] → f ≡ Text NoSize → Refused file room f
  first : (l : RawLine) (ls : List RawLine) → lines_of file ≡ l ∷ ls → FirstLine l f → Refused file room f
  later : (l bad : RawLine) (good rest : List RawLine) (s : Size) (rs : List Record) → lines_of file ≡ l ∷ (good ++ (bad ∷ rest)) → SaysSize l s → SizeFits s → SayRecords good rs → Fit s rs → LaterLine s rs (length good + 2) bad f → Refused file room f
  many : (s : Size) (rs : List Record) → Reads file s rs → SizeFits s → Fit s rs → limit room < length rs → f ≡ TooManyRecords (limit room + 2) → Refused file room f

-- Want of memory comes only where the file's first line says a size within the limits.
pub record Wanting (file : List ℕ) (f : TableFault) : Type 0 where
  pub fault : f ≡ NoMemory
  pub line : RawLine
  pub rest : List RawLine
  pub lines : lines_of file ≡ line ∷ rest
  pub size : Size
  pub says : SaysSize line size
  pub fits : SizeFits size

-- A file is accepted with one size and one list of records, or has one fault, and never both. What it says, written again,
-- is the file.
pub record OneReading (file : List ℕ) (room : ℕ) : Type 0 where
  pub never_both : (s : Size) (rs : List Record) (f : TableFault) → Accepted file room s rs → Refused file room f → ⊥
  pub one : (s t : Size) (rs qs : List Record) → Accepted file room s rs → Accepted file room t qs → (s ≡ t) × (rs ≡ qs)
  pub one_fault : (f g : TableFault) → Refused file room f → Refused file room g → f ≡ g
  pub same_bytes : (s : Size) (rs : List Record) (old new : List ℕ) (end : ℕ) → Accepted file room s rs → Wrote (file_text s rs) 0 old new end → take end new ≡ file

-- The network that the file draws, or why there is none.
abbrev pub TableRead : List ℕ → ℕ → Result NetworkFile TableFault → Type 0
TableRead file room (Ok a) = (rs : List Record) × Accepted file room a.summary.size rs × (a.summary.records ≡ length rs) × (meaning_of a.table ≡ drawn a.summary.size rs)
TableRead file room (Err f) = Refused file room f ⊎ Wanting file f

-- The records stand at the list's start, in the order of the file, and the list is as it was behind them; a refusal leaves it.
abbrev pub Reading : List ℕ → List Record → Result Summary TableFault → List Record → Type 0
Reading file before (Ok a) after = (rs : List Record) × Accepted file (length before) a.size rs × (a.records ≡ length rs) × (after ≡ rs ++ drop (length rs) before)
Reading file before (Err f) after = (Refused file (length before) f ⊎ Wanting file f) × (after ≡ before)

-- A fault of the first line is told, whatever memory there is, and so is that there is no line.
pub record FirstTold {A : Type 0} (file : List ℕ) (r : Result A TableFault) : Type 0 where
  pub empty : lines_of file ≡ [] → r ≡ Err (Text NoSize)
  pub line : (l : RawLine) (ls : List RawLine) (f : TableFault) → lines_of file ≡ l ∷ ls → FirstLine l f → r ≡ Err f

-- two answers tell the same: one size, one number of records and one network, or one fault
abbrev pub SameTold : Result NetworkFile TableFault → Result NetworkFile TableFault → Type 0
SameTold (Ok a) (Ok b) = (a.summary ≡ b.summary) × (meaning_of a.table ≡ meaning_of b.table)
SameTold (Ok a) (Err g) = ⊥
SameTold (Err f) (Ok b) = ⊥
SameTold (Err f) (Err g) = f ≡ g

-- No other answer tells anything else, but for want of memory.
abbrev pub OnlyTable : List ℕ → ℕ → Result NetworkFile TableFault → Type 0
OnlyTable file room r = (q : Result NetworkFile TableFault) → TableRead file room q → (r ≡ Err NoMemory) ⊎ ((q ≡ Err NoMemory) ⊎ SameTold q r)

-- No other answer and no other list meet this, but for want of memory, by which the list is as it was.
abbrev pub OnlyReading : List ℕ → List Record → Result Summary TableFault → List Record → Type 0
OnlyReading file before r after = (q : Result Summary TableFault) (list : List Record) → Reading file before q list → (r ≡ Err NoMemory) ⊎ (((q ≡ Err NoMemory) × (list ≡ before)) ⊎ ((q ≡ r) × (list ≡ after)))
