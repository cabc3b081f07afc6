-- What the editor's entry gives: a number for the bytes of a network file, and what it leaves in the lent buffers.
use Rattle.std.specs.Prelude.{◌≡◌, ℕ, ◌<◌, ◌≤◌, ◌⊎◌, min, List, [], ◌∷◌, length, Option, Some, None, Ok, Err, Result, slice_index}
use Rattle.lines.specs.Pieces.{RawLine, lines_of}
use Rattle.records.specs.declared.Record.{Record}
use Rattle.records.specs.declared.Size.{Size}
use Rattle.records.specs.declared.faults.Parts.{Parts}
use Rattle.records.specs.declared.faults.TextFault.TheVariants.{NoSize}
use Rattle.networks.specs.Allowed.{pairs}
use Rattle.networks.specs.Cleared.{AllZero}
use Rattle.networks.specs.Faults.{study_parts}
use Rattle.networks.specs.Nets.{Net}
use Rattle.networks.specs.Rooms.{Room, first_short}
use Rattle.networks.specs.declared.faults.Buffer.{Buffer}
use Rattle.networks.specs.declared.faults.Buffer.TheVariants as buffer
use Rattle.networks.specs.declared.faults.StudyFault.{StudyFault}
use Rattle.networks.specs.declared.faults.StudyFault.TheVariants.{Table, Short}
use Rattle.networks.specs.declared.faults.TableFault.{TableFault}
use Rattle.networks.specs.declared.faults.TableFault.TheVariants.{Text, NoMemory}
use Rattle.tables.specs.Drawn.{drawn}
use Rattle.tables.specs.Makes.{most}
use Rattle.netfiles.specs.Reading.{Accepted, Refused, FirstLine, Wanting}
use Rattle.loads.specs.Loads.{packet}
use Rattle.loads.specs.declared.LoadRecord.{LoadRecord}
use Rattle.checks.specs.Checks.{Checked}
use Rattle.checks.specs.declared.outcome.Check.{Check}
use Rattle.checks.specs.declared.outcome.Verdict.{Verdict}
use Rattle.checks.specs.declared.outcome.Verdict.TheVariants.{Free, Blocked}

-- The number that tells a verdict, and the one that tells a refusal: its own.
abbrev pub number_told : Result Verdict StudyFault → ℕ
number_told (Ok Free) = 0
number_told (Ok Blocked) = 1
number_told (Err f) = (study_parts f).number

-- The lent buffers, but for the work area. A fault's line and field go to the last.
pub record Buffers : Type 0 where
  pub allowed : List ℕ
  pub numbers : List ℕ
  pub places : List ℕ
  pub fault : List ℕ

-- the word for a channel that holds no packet in the blocked load
abbrev pub no_place : ℕ
no_place = 4294967295

-- the word for what a channel holds: the packet's place
abbrev pub place_word : Option ℕ → ℕ
place_word None = no_place
place_word (Some d) = d

-- The words tell what the load has in the channels. What lies beyond is as it was.
pub record Places (channels : ℕ) (load : List LoadRecord) (before after : List ℕ) : Type 0 where
  pub told : (c : ℕ) → c < channels → slice_index after c ≡ place_word (packet load c)
  pub beyond : (k : ℕ) → channels ≤ k → slice_index after k ≡ slice_index before k

-- the word for a line or a field; what no word can tell is told as the greatest
abbrev pub word : ℕ → ℕ
word k = min k 4294967295

-- The line and the field of a fault stand in the first two words, as far as there are so many. What lies beyond is as it was.
abbrev pub with_place : Parts → List ℕ → List ℕ
with_place p [] = []
with_place p (x ∷ []) = word p.line ∷ []
with_place p (x ∷ (y ∷ rest)) = word p.line ∷ (word p.field ∷ rest)

-- The network of a file that is accepted. A file may have as many records as a table takes.
pub record Takes (file : List ℕ) (n : Net) : Type 0 where
  pub size : Size
  pub list : List Record
  pub accepted : Accepted file most size list
  pub network : n ≡ drawn size list

-- What is needed: a byte and a word of work for each pair, and a number and a word for its packet for each channel.
abbrev pub rooms : Net → ℕ → ℕ → ℕ → ℕ → List Room
rooms n allowed numbers places work =
    record { buffer = buffer.Allowed; needed = pairs n; given = allowed }
    ∷ (record { buffer = buffer.Numbers; needed = n.channels; given = numbers }
    ∷ (record { buffer = buffer.Load; needed = n.channels; given = places } ∷ (record { buffer = buffer.Work; needed = pairs n; given = work } ∷ [])))

abbrev pub short_of : Net → Buffers → ℕ → Option Buffer
short_of n b work = first_short (rooms n (length b.allowed) (length b.numbers) (length b.places) work)

-- The verdict on a network with what a check of it writes, whatever the blocked load was written over.
pub record Found (n : Net) (before : Buffers) (v : Verdict) (after : Buffers) : Type 0 where
  pub load : List LoadRecord
  pub load' : List LoadRecord
  pub check : Check
  pub checked : Checked n before.allowed after.allowed before.numbers after.numbers load load' check
  pub verdict : v ≡ check.verdict
  pub long : n.channels ≤ length after.numbers
  pub places : Places n.channels load' before.places after.places

-- The verdict on the network of a file. No fault is told.
pub record Judged (file : List ℕ) (before : Buffers) (work : ℕ) (v : Verdict) (after : Buffers) : Type 0 where
  pub net : Net
  pub takes : Takes file net
  pub rooms_suffice : short_of net before work ≡ None
  pub found : Found net before v after
  pub fault : after.fault ≡ before.fault

-- Why there is none: the file is refused; it is accepted, and a buffer is too short for its network.
pub data Reason (file : List ℕ) (before : Buffers) (work : ℕ) (f : StudyFault) : Type 0 where
  refused : (t : TableFault) → Refused file most t → f ≡ Table t → Reason file before work f
  short : (n : Net) → Takes file n → (b : Buffer) → short_of n before work ≡ Some b → f ≡ Short b → Reason file before work f

-- Line and field of the fault are told, and the other buffers are as they were.
pub record Told (before : Buffers) (f : StudyFault) (after : Buffers) : Type 0 where
  pub allowed : after.allowed ≡ before.allowed
  pub numbers : after.numbers ≡ before.numbers
  pub places : after.places ≡ before.places
  pub fault : after.fault ≡ with_place (study_parts f) before.fault

-- The number, and what is left in the buffers.
pub data Gives (file : List ℕ) (before : Buffers) (work r : ℕ) (after : Buffers) : Type 0 where
  judges : (v : Verdict) → Judged file before work v after → r ≡ number_told (Ok v) → Gives file before work r after
  refuses : (f : StudyFault) → Reason file before work f → Told before f after → r ≡ number_told (Err f) → Gives file before work r after

-- at every position the same stands in the buffers
pub record Same (a b : Buffers) : Type 0 where
  pub allowed : (k : ℕ) → slice_index a.allowed k ≡ slice_index b.allowed k
  pub numbers : (k : ℕ) → slice_index a.numbers k ≡ slice_index b.numbers k
  pub places : (k : ℕ) → slice_index a.places k ≡ slice_index b.places k
  pub fault : (k : ℕ) → slice_index a.fault k ≡ slice_index b.fault k

-- This is what the entry gives for the file, and nothing else is: no other number, and nothing else in the buffers.
pub record Enters (file : List ℕ) (before : Buffers) (work r : ℕ) (after : Buffers) : Type 0 where
  pub gives : Gives file before work r after
  pub only : (q : ℕ) (other : Buffers) → Gives file before work q other → (q ≡ r) × Same other after

-- Memory for the network cannot be had. That comes only where the file's first line says a size within the limits.
pub record Starves (file : List ℕ) (before : Buffers) (r : ℕ) (after : Buffers) : Type 0 where
  pub wanting : Wanting file NoMemory
  pub told : Told before (Table NoMemory) after
  pub number : r ≡ number_told (Err (Table NoMemory))

-- This is what want of memory leaves, and nothing else is.
pub record Starved (file : List ℕ) (before : Buffers) (r : ℕ) (after : Buffers) : Type 0 where
  pub starves : Starves file before r after
  pub only : (q : ℕ) (other : Buffers) → Starves file before q other → (q ≡ r) × Same other after

-- What the entry gives; want of memory is told too.
abbrev pub Entered : List ℕ → Buffers → ℕ → ℕ → Buffers → Type 0
Entered file before work r after = Enters file before work r after ⊎ Starved file before r after

-- Whatever memory there is, a fault of the first line is told, and so is that there is no line.
pub record FirstTold (file : List ℕ) (r : ℕ) : Type 0 where
  pub empty : lines_of file ≡ [] → r ≡ number_told (Err (Table (Text NoSize)))
  pub line : (l : RawLine) (ls : List RawLine) (t : TableFault) → lines_of file ≡ l ∷ ls → FirstLine l t → r ≡ number_told (Err (Table t))

-- What a call of the entry leaves: its number, and what stands in the buffers and in the work area.
pub record Left : Type 0 where
  pub number : ℕ
  pub buffers : Buffers
  pub work : List ℕ

-- Where memory is to be had, the entry may leave this for the file, of buffers and a work area that held these. Lent buffers keep their lengths.
pub record Leaves (file : List ℕ) (before : Buffers) (work : List ℕ) (x : Left) : Type 0 where
  pub gives : Gives file before (length work) x.number x.buffers
  pub cleared : AllZero x.work
  pub bytes : length x.buffers.allowed ≡ length before.allowed
  pub each : length x.buffers.numbers ≡ length before.numbers
  pub places : length x.buffers.places ≡ length before.places
  pub fault : length x.buffers.fault ≡ length before.fault
  pub words : length x.work ≡ length work
