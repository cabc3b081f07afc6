-- What the lines of a network file say, and their faults.
use Rattle.std.specs.Prelude.{◌≡◌, ℕ, ◌+◌, ◌<◌, true, false, cond, ◌⊎◌, List, [], ◌∷◌, ◌++◌, map, length, drop, Some, None, Ok, Err, decimal, Option, Result, MatchResult, ◌==◌, ◌≢◌, slice_index_or}
use Rattle.lines.specs.Numbers.{Spelled}
use Rattle.lines.specs.Pieces.{RawLine, lines_of, fields_of}
use Rattle.records.specs.declared.faults.TextFault.{TextFault}
use Rattle.records.specs.declared.faults.TextFault.TheVariants.{NoSize, UnknownLetter, WrongShape, NoNumber, SizeAgain}
use Rattle.records.specs.declared.Record.{Record}
use Rattle.records.specs.declared.Size.{Size}
use Rattle.records.specs.Rendering.{letter_n, letter_e, letter_h, letter_w, size_numbers, size_text, numbers_of, record_text, file_text, Small, AllSmall}

-- A line says a size, or a record, when it is finished and is how that is written.
pub record SaysSize (l : RawLine) (s : Size) : Type 0 where
  pub text : l ≡ (size_text s, true)
  pub small : Small (size_numbers s)

pub record SaysRecord (l : RawLine) (r : Record) : Type 0 where
  pub text : l ≡ (record_text r, true)
  pub small : Small (numbers_of r)

-- the lines say the records, one each, in order
abbrev pub SayRecords : List RawLine → List Record → Type 0
SayRecords [] [] = Unit {0}
SayRecords [] (r ∷ rs) = ⊥
SayRecords (l ∷ ls) [] = ⊥
SayRecords (l ∷ ls) (r ∷ rs) = SaysRecord l r × SayRecords ls rs

abbrev pub first_field : RawLine → List ℕ
first_field l = slice_index_or (fields_of l.0) 0 []

-- the fields behind the first
abbrev pub behind : RawLine → List (List ℕ)
behind l = drop 1 (fields_of l.0)

-- The line is finished, and the fields behind its first are the numbers.
pub record HasNumbers (l : RawLine) (ns : List ℕ) : Type 0 where
  pub finished : l.1 ≡ true
  pub fields : behind l ≡ map decimal ns
  pub small : Small ns

-- how many numbers should follow a first field, if it is a letter that may stand there: n on the first line; e, h and w on
-- the others
abbrev pub size_letter : List ℕ → Option ℕ
size_letter [] = None
size_letter (c ∷ []) = cond (c == letter_n) (Some 2) None
size_letter (c ∷ (d ∷ ds)) = None

abbrev pub record_letter : List ℕ → Option ℕ
record_letter [] = None
record_letter (c ∷ []) = cond (c == letter_e) (Some 2) (cond (c == letter_h) (Some 2) (cond (c == letter_w) (Some 3) None))
record_letter (c ∷ (d ∷ ds)) = None

-- The line is unfinished or has other than k fields behind the first.
abbrev pub Misshapen : ℕ → RawLine → Type 0
Misshapen k l = (l.1 ≡ false) ⊎ (length (behind l) ≢ k)

-- The line has k fields behind the first, as it should, and its field i, counted from 1, is the first of those that
-- spells no number.
pub record BadField (k : ℕ) (l : RawLine) (i : ℕ) : Type 0 where
  pub finished : l.1 ≡ true
  pub count : length (behind l) ≡ k
  pub at : ℕ
  pub field : i ≡ at + 2
  pub there : at < k
  pub bad : Spelled (slice_index_or (behind l) at []) → ⊥
  pub before : (j : ℕ) → j < at → Spelled (slice_index_or (behind l) j [])

-- the faults of the n-th line of a file, where k numbers should follow its first field
abbrev pub NumbersFault : ℕ → ℕ → RawLine → TextFault → Type 0
NumbersFault k n l NoSize = ⊥
NumbersFault k n l (UnknownLetter line) = ⊥
NumbersFault k n l (WrongShape line) = (line ≡ n) × Misshapen k l
NumbersFault k n l (NoNumber line i) = (line ≡ n) × BadField k l i
NumbersFault k n l (SizeAgain line) = ⊥

-- the faults of a file's first line, by how many numbers should follow its first field
abbrev pub SizeFaultBy : Option ℕ → RawLine → TextFault → Type 0
SizeFaultBy None l f = f ≡ NoSize
SizeFaultBy (Some k) l f = NumbersFault k 1 l f

abbrev pub SizeFault : RawLine → TextFault → Type 0
SizeFault l f = SizeFaultBy (size_letter (first_field l)) l f

-- the faults of a later line, the n-th of the file, by the same
abbrev pub RecordFaultBy : Option ℕ → ℕ → RawLine → TextFault → Type 0
RecordFaultBy None n l f = ((first_field l ≡ letter_n ∷ []) × (f ≡ SizeAgain n)) ⊎ ((first_field l ≢ letter_n ∷ []) × (f ≡ UnknownLetter n))
RecordFaultBy (Some k) n l f = NumbersFault k n l f

abbrev pub RecordFault : ℕ → RawLine → TextFault → Type 0
RecordFault n l f = RecordFaultBy (record_letter (first_field l)) n l f

-- What the first of the lines says, if there is one.
abbrev pub FirstSays : List RawLine → Result Size TextFault → Type 0
FirstSays [] r = r ≡ Err NoSize
FirstSays (l ∷ ls) r = MatchResult r (λ s. SaysSize l s) (λ f. SizeFault l f)

-- What the next of the lines says, if there is one: n lines stand before those of `ls`, and m before those of `left`.
abbrev pub NextSays : ℕ → List RawLine → Option (Result Record TextFault) → ℕ → List RawLine → Type 0
NextSays n ls None m left = (ls ≡ []) × (left ≡ []) × (m ≡ n)
NextSays n ls (Some (Ok r)) m left = (l : RawLine) × (ls ≡ l ∷ left) × SaysRecord l r × (m ≡ n + 1)
NextSays n ls (Some (Err f)) m left = (l : RawLine) × (ls ≡ l ∷ left) × RecordFault (n + 1) l f × (m ≡ n + 1)

-- What a file says: it is how the size and the records are written.
pub record Reads (file : List ℕ) (s : Size) (rs : List Record) : Type 0 where
  pub text : file ≡ file_text s rs
  pub size_small : Small (size_numbers s)
  pub small : AllSmall rs

-- The fault of a file is that of its first faulty line. An empty file lacks the size.
pub data FileFault (file : List ℕ) (f : TextFault) : Type 0 where
  empty : lines_of file ≡ [] → f ≡ NoSize → FileFault file f
  first : (l : RawLine) (ls : List RawLine) → lines_of file ≡ l ∷ ls → SizeFault l f → FileFault file f
  later : (l bad : RawLine) (good rest : List RawLine) (s : Size) (rs : List Record) → lines_of file ≡ l ∷ (good ++ (bad ∷ rest)) → SaysSize l s → SayRecords good rs → RecordFault (length good + 2) bad f → FileFault file f

-- A line says one thing or has one fault, never both and never two: whatever two say of the first line, or of the next one, is the same.
pub record OneSaying : Type 0 where
  pub first : (ls : List RawLine) (r q : Result Size TextFault) → FirstSays ls r → FirstSays ls q → r ≡ q
  pub next : (n m k : ℕ) (ls left rest : List RawLine) (r q : Option (Result Record TextFault)) → NextSays n ls r m left → NextSays n ls q k rest → (r ≡ q) × (m ≡ k) × (left ≡ rest)
