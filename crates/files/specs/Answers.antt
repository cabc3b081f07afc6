-- What judging a file's text answers.
use Rattle.std.specs.Prelude.{◌≡◌, ℕ, List, length, Ok, Err, Result}
use Rattle.records.specs.declared.faults.TextFault.{TextFault}
use Rattle.files.specs.declared.judging.Summary.{Summary}
use Rattle.records.specs.declared.Record.{Record}
use Rattle.records.specs.declared.Size.{Size}
use Rattle.files.specs.Says.{Reads, FileFault}

abbrev pub summary : Size → List Record → Summary
summary s rs = record { size = s; records = length rs }

-- The size that the file says and how many records it says, or its first fault.
abbrev pub Answers : List ℕ → Result Summary TextFault → Type 0
Answers file (Ok a) = (s : Size) × (rs : List Record) × Reads file s rs × (a ≡ summary s rs)
Answers file (Err f) = FileFault file f

-- A file says one size and one list of records, or has one fault, and never both: whichever is found, it is the answer.
pub record Sole (file : List ℕ) (r : Result Summary TextFault) : Type 0 where
  pub reads : (s : Size) (rs : List Record) → Reads file s rs → r ≡ Ok (summary s rs)
  pub faults : (f : TextFault) → FileFault file f → r ≡ Err f
  pub one : (s t : Size) (rs qs : List Record) → Reads file s rs → Reads file t qs → (s ≡ t) × (rs ≡ qs)
