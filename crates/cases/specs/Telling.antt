-- What is told of a worked case.
use Rattle.std.specs.Prelude.{ℕ, Bool, List, map}
use Rattle.checks.specs.declared.outcome.Verdict.{Verdict}
use Rattle.cases.specs.Cases.{Case}
use Rattle.cases.specs.Worked.{worked}
use Rattle.cases.specs.declared.Stated.{Stated}

-- its name, the verdict, the numbers of the channels, whether it is arriving, and how many pairs are held
pub record Telling : Type 0 where
  pub name : List ℕ
  pub verdict : Verdict
  pub numbers : List ℕ
  pub arriving : Bool
  pub held_pairs : ℕ

abbrev pub told : Stated → Telling
told s = record { name = s.name.now; verdict = s.verdict; numbers = s.numbers.now; arriving = s.arriving; held_pairs = s.held_pairs }

-- what is told of all worked cases
abbrev pub tellings : List Telling
tellings = map (λ (k : Case). record { name = k.name; verdict = k.certificate.check.verdict; numbers = k.buffers.numbers; arriving = k.certificate.routes.arriving; held_pairs = k.certificate.routes.held }) worked
