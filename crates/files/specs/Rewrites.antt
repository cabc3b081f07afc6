-- Writing a file anew from what it says.
use Rattle.std.specs.Prelude.{◌≡◌, ℕ, ◌<◌, List, length, Ok, Err, Result}
use Rattle.records.specs.declared.Record.{Record}
use Rattle.records.specs.declared.Size.{Size}
use Rattle.files.specs.declared.rewriting.RewriteFault.{RewriteFault}
use Rattle.files.specs.declared.rewriting.RewriteFault.TheVariants.{Text, Line}
use Rattle.records.specs.declared.writing.WriteFault.TheVariants.{LargeNumber, NoRoom}
use Rattle.files.specs.Says.{Reads, FileFault}
use Rattle.records.specs.Writes.{Wrote}

-- the file says some size and records
abbrev pub Readable : List ℕ → Type 0
Readable file = (s : Size) × (rs : List Record) × Reads file s rs

-- What the file says is written, and that is the file itself, byte for byte. A refusal leaves the bytes as they were.
abbrev pub Rewrites : List ℕ → List ℕ → Result ℕ RewriteFault → List ℕ → Type 0
Rewrites file old (Ok end) new = Readable file × Wrote file 0 old new end
Rewrites file old (Err (Text f)) new = FileFault file f × (new ≡ old)
Rewrites file old (Err (Line NoRoom)) new = Readable file × (length old < length file) × (new ≡ old)
Rewrites file old (Err (Line LargeNumber)) new = ⊥

-- No other answer and no other bytes meet this.
abbrev pub OnlyRewrites : List ℕ → List ℕ → Result ℕ RewriteFault → List ℕ → Type 0
OnlyRewrites file old r new = (q : Result ℕ RewriteFault) (bytes : List ℕ) → Rewrites file old q bytes → (q ≡ r) × (bytes ≡ new)
