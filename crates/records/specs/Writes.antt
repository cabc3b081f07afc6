-- Writing lines into lent bytes.
use Rattle.std.specs.Prelude.{◌≡◌, ℕ, ◌+◌, ◌<◌, ◌≤◌, List, ◌++◌, length, take, drop, Ok, Err, Result}
use Rattle.records.specs.declared.writing.WriteFault.{WriteFault}
use Rattle.records.specs.declared.writing.WriteFault.TheVariants.{LargeNumber, NoRoom}
use Rattle.records.specs.Rendering.{finished, line_text, Small}

-- The text was written over the bytes from `at` on, up to `end`; all others stayed.
pub record Wrote (text : List ℕ) (at : ℕ) (old new : List ℕ) (end : ℕ) : Type 0 where
  pub ends : end ≡ at + length text
  pub fits : end ≤ length old
  pub bytes : new ≡ take at old ++ (text ++ drop end old)

-- Writing a line of a letter and numbers: done whole, or refused with the bytes as they were.
abbrev pub WritesLine : ℕ → List ℕ → ℕ → List ℕ → Result ℕ WriteFault → List ℕ → Type 0
WritesLine letter ns at old (Ok end) new = Small ns × Wrote (finished (line_text letter ns)) at old new end
WritesLine letter ns at old (Err LargeNumber) new = (Small ns → ⊥) × (new ≡ old)
WritesLine letter ns at old (Err NoRoom) new = Small ns × (length old < at + length (finished (line_text letter ns))) × (new ≡ old)

-- No other answer and no other bytes meet this.
abbrev pub OnlyWrites : ℕ → List ℕ → ℕ → List ℕ → Result ℕ WriteFault → List ℕ → Type 0
OnlyWrites letter ns at old r new = (q : Result ℕ WriteFault) (bytes : List ℕ) → WritesLine letter ns at old q bytes → (q ≡ r) × (bytes ≡ new)
