-- Writing a size and records as a network file.
use Rattle.std.specs.Prelude.{◌≡◌, ℕ, ◌<◌, ◌≤◌, ◌⊎◌, List, length, take, Ok, Err, Result}
use Rattle.records.specs.declared.Record.{Record}
use Rattle.records.specs.declared.Size.{Size}
use Rattle.records.specs.Rendering.{file_text}
use Rattle.records.specs.Writes.{Wrote}
use Rattle.networks.specs.declared.faults.Buffer.TheVariants.{File}
use Rattle.networks.specs.declared.faults.StudyFault.{StudyFault}
use Rattle.networks.specs.declared.faults.StudyFault.TheVariants.{Table, Short}
use Rattle.networks.specs.declared.faults.TableFault.{TableFault}
use Rattle.networks.specs.declared.faults.TableFault.TheVariants.{NoMemory}
use Rattle.tables.specs.Makes.{Acceptable, RecordsFault, SizeFits, SizeMisfit}
use Rattle.netfiles.specs.Reading.{Accepted}

-- The file was written from the start of the bytes. Read into any list with room for them, it is accepted with this size and
-- these records, and with no others.
pub record Written (s : Size) (rs : List Record) (old new : List ℕ) (end : ℕ) : Type 0 where
  pub acceptable : Acceptable s rs
  pub wrote : Wrote (file_text s rs) 0 old new end
  pub back : (room : ℕ) → length rs ≤ room → Accepted (take end new) room s rs
  pub only : (room : ℕ) (t : Size) (qs : List Record) → Accepted (take end new) room t qs → (t ≡ s) × (qs ≡ rs)

-- Why nothing was written: the records make no table, or, where they do, the bytes do not suffice.
pub data Unwritten (s : Size) (rs : List Record) (room : ℕ) (f : StudyFault) : Type 0 where
  faulty : (t : TableFault) → RecordsFault s rs t → f ≡ Table t → Unwritten s rs room f
  short : Acceptable s rs → room < length (file_text s rs) → f ≡ Short File → Unwritten s rs room f
  wanting : SizeFits s → f ≡ Table NoMemory → Unwritten s rs room f

-- A refusal leaves the bytes as they were.
abbrev pub Writing : Size → List Record → List ℕ → Result ℕ StudyFault → List ℕ → Type 0
Writing s rs old (Ok end) new = Written s rs old new end
Writing s rs old (Err f) new = Unwritten s rs (length old) f × (new ≡ old)

-- A fault of the size is told, whatever memory there is.
abbrev pub SizeTold : Size → Result ℕ StudyFault → Type 0
SizeTold s r = (f : TableFault) → SizeMisfit s f → r ≡ Err (Table f)

-- No other answer and no other bytes meet this, but for want of memory, by which the bytes are as they were.
abbrev pub OnlyWriting : Size → List Record → List ℕ → Result ℕ StudyFault → List ℕ → Type 0
OnlyWriting s rs old r new = (q : Result ℕ StudyFault) (bytes : List ℕ) → Writing s rs old q bytes → (r ≡ Err (Table NoMemory)) ⊎ (((q ≡ Err (Table NoMemory)) × (bytes ≡ old)) ⊎ ((q ≡ r) × (bytes ≡ new)))
