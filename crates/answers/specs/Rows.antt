-- The lines of a result file, one by one. Cited by private functions alone.
use Rattle.std.specs.Prelude.{◌≡◌, ℕ, true, List, [], ◌∷◌, ◌++◌, Option}
use Rattle.lines.specs.Pieces.{lines_of, fields_of}
use Rattle.checks.specs.declared.outcome.Check.{Check}
use Rattle.answers.specs.Prints.{verdict_line, channel_line}
use Rattle.answers.specs.Results.{Said, ShortLine, bad_line, no_agreement}
use Rattle.answers.specs.declared.results.ResultFault.{ResultFault}
use Rattle.answers.specs.declared.results.ResultFault.TheVariants.{Line, Agreement}

-- The rest of a file begins with a finished line of these four fields. More comes behind it.
pub record Row (rest a b c d more : List ℕ) : Type 0 where
  pub line : List ℕ
  pub first : lines_of rest ≡ (line, true) ∷ lines_of more
  pub fields : fields_of line ≡ a ∷ (b ∷ (c ∷ (d ∷ [])))

-- The rest begins with a first line.
pub record Opening (rest : List ℕ) (k : Check) (more : List ℕ) : Type 0 where
  pub short : ShortLine k
  pub text : rest ≡ verdict_line k ++ more

-- The rest begins with a line of channel c.
pub record Claim (rest : List ℕ) (c word : ℕ) (place : Option ℕ) (more : List ℕ) : Type 0 where
  pub said : Said word place
  pub text : rest ≡ channel_line c word place ++ more

-- the number and the line of a refusal
abbrev pub bad_number : ResultFault → ℕ
bad_number (Line n) = bad_line
bad_number Agreement = no_agreement

abbrev pub bad_at : ResultFault → ℕ
bad_at (Line n) = n
bad_at Agreement = 1
