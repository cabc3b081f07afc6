-- Which records make a table, and the faults of those that do not.
use Rattle.std.specs.Prelude.{◌≡◌, ℕ, ◌+◌, ◌<◌, ◌≤◌, min, ◌⊎◌, List, [], ◌∷◌, ◌++◌, length, Ok, Err, Result, slice_index}
use Rattle.std.specs.List.{AllByRecursion}
use Rattle.records.specs.declared.Record.{Record}
use Rattle.records.specs.declared.Record.TheVariants.{Entry, Home, Way}
use Rattle.records.specs.declared.Size.{Size}
use Rattle.records.specs.Rendering.{numbers_of}
use Rattle.networks.specs.declared.faults.TableFault.{TableFault}
use Rattle.networks.specs.declared.faults.TableFault.TheVariants.{SizeOutOfLimits, OutOfRange, NinthWay, TooManyRecords, NoMemory}
use Rattle.networks.specs.Nets.{Net, most_channels, most_places, most_ways}
use Rattle.tables.specs.declared.table.Table.{Table}
use Rattle.tables.specs.Drawn.{drawn, adding}
use Rattle.tables.specs.Meaning.{meaning_of}
pub use Rattle.tables.specs.Sizes.{SizeFits}

-- how many records a table takes
abbrev pub most : ℕ
most = 65535

-- how many records go into a list with room for so many
abbrev pub limit : ℕ → ℕ
limit room = min room most

-- The fault of a size names the first field that is outside its limits.
pub data SizeMisfit (s : Size) (f : TableFault) : Type 0 where
  channels : ((1 ≤ s.channels) × (s.channels ≤ most_channels) → ⊥) → f ≡ SizeOutOfLimits 2 → SizeMisfit s f
  places : 1 ≤ s.channels → s.channels ≤ most_channels → ((1 ≤ s.places) × (s.places ≤ most_places) → ⊥) → f ≡ SizeOutOfLimits 3 → SizeMisfit s f

-- the counts that the numbers of a record have to be below
abbrev pub counts_for : Net → Record → List ℕ
counts_for n (Entry c d) = n.channels ∷ (n.places ∷ [])
counts_for n (Home c d) = n.channels ∷ (n.places ∷ [])
counts_for n (Way c d h) = n.channels ∷ (n.places ∷ (n.channels ∷ []))

abbrev pub Below : Net → Record → ℕ → Type 0
Below n r k = slice_index (numbers_of r) k < slice_index (counts_for n r) k

-- every number of the record is below its count
abbrev pub Within : Net → Record → Type 0
Within n r = (k : ℕ) → k < length (numbers_of r) → Below n r k

-- Field i of the record's line, counted from 1, is the first that is not below its count.
pub record FirstOutside (n : Net) (r : Record) (i : ℕ) : Type 0 where
  pub at : ℕ
  pub field : i ≡ at + 2
  pub there : at < length (numbers_of r)
  pub outside : Below n r at → ⊥
  pub before : (k : ℕ) → k < at → Below n r k

-- the record adds a way to a pair that has as many as it may have
abbrev pub Full : Net → Record → Type 0
Full n (Entry c d) = ⊥
Full n (Home c d) = ⊥
Full n (Way c d h) = most_ways ≤ length (n.ways c d)

-- The network takes the record.
pub record Takes (n : Net) (r : Record) : Type 0 where
  pub within : Within n r
  pub room : Full n r → ⊥

-- The fault of a record that the network does not take, where the record stands on the line. Numbers out of range come first.
pub data Misfit (n : Net) (line : ℕ) (r : Record) (f : TableFault) : Type 0 where
  outside : (i : ℕ) → FirstOutside n r i → f ≡ OutOfRange line i → Misfit n line r f
  ninth : Within n r → Full n r → f ≡ NinthWay line → Misfit n line r f

-- All numbers of the records are below their counts, and no pair has more ways than it may have.
pub record Fit (s : Size) (rs : List Record) : Type 0 where
  pub within : AllByRecursion (Within (drawn s rs)) rs
  pub few : (c d : ℕ) → length ((drawn s rs).ways c d) ≤ most_ways

-- The size and the records make a table.
pub record Acceptable (s : Size) (rs : List Record) : Type 0 where
  pub size : SizeFits s
  pub fit : Fit s rs
  pub few : length rs ≤ most

-- The fault of a size and records that make none: that of the size; that of the first record that does not fit behind those
-- before it, where the first record stands on line 2; only where there is none of these, that there are too many.
pub data RecordsFault (s : Size) (rs : List Record) (f : TableFault) : Type 0 where
  size : SizeMisfit s f → RecordsFault s rs f
  first : (good rest : List Record) (bad : Record) → SizeFits s → rs ≡ good ++ (bad ∷ rest) → Fit s good → Misfit (drawn s good) (length good + 2) bad f → RecordsFault s rs f
  many : SizeFits s → Fit s rs → most < length rs → f ≡ TooManyRecords (most + 2) → RecordsFault s rs f

-- A size and records make a table or have one fault, and never both.
pub record OneFault (s : Size) (rs : List Record) : Type 0 where
  pub never_both : (f : TableFault) → Acceptable s rs → RecordsFault s rs f → ⊥
  pub one : (f g : TableFault) → RecordsFault s rs f → RecordsFault s rs g → f ≡ g

-- A table without records, or why there is none.
abbrev pub Begins : Size → Result Table TableFault → Type 0
Begins s (Ok t) = SizeFits s × (meaning_of t ≡ drawn s [])
Begins s (Err f) = SizeMisfit s f ⊎ (SizeFits s × (f ≡ NoMemory))

-- One record more: the network takes it, or stays as it was.
abbrev pub Adds : Net → ℕ → Record → Result (Unit {0}) TableFault → Net → Type 0
Adds n line r (Ok u) m = Takes n r × (m ≡ adding n r)
Adds n line r (Err f) m = Misfit n line r f × (m ≡ n)

-- The table of all records, or their fault. Want of memory comes only where the size fits.
abbrev pub Makes : Size → List Record → Result Table TableFault → Type 0
Makes s rs (Ok t) = Acceptable s rs × (meaning_of t ≡ drawn s rs)
Makes s rs (Err f) = RecordsFault s rs f ⊎ (SizeFits s × (f ≡ NoMemory))

-- Two answers tell the same: tables of one network, or one fault.
abbrev pub SameMade : Result Table TableFault → Result Table TableFault → Type 0
SameMade (Ok t) (Ok u) = meaning_of t ≡ meaning_of u
SameMade (Ok t) (Err g) = ⊥
SameMade (Err f) (Ok u) = ⊥
SameMade (Err f) (Err g) = f ≡ g

-- Making a table tells one thing, but for want of memory, and a fault of the size whatever memory there is. A table without records is
-- the table of none. Adding a record tells one thing and leaves one network.
pub record OneMaking (s : Size) (rs : List Record) : Type 0 where
  pub size : (f : TableFault) → SizeMisfit s f → (r : Result Table TableFault) → Makes s rs r → r ≡ Err f
  pub one : (r q : Result Table TableFault) → Makes s rs r → Makes s rs q → (r ≡ Err NoMemory) ⊎ ((q ≡ Err NoMemory) ⊎ SameMade r q)
  pub blank : (r : Result Table TableFault) → Begins s r → Makes s [] r
  pub adds : (n : Net) (line : ℕ) (r : Record) (a b : Result (Unit {0}) TableFault) (m k : Net) → Adds n line r a m → Adds n line r b k → (a ≡ b) × (m ≡ k)
