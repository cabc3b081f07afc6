-- The words for verdicts.
use Rattle.std.specs.Prelude.{ℕ, List, codes}
use Rattle.checks.specs.declared.outcome.Verdict.{Verdict}
use Rattle.checks.specs.declared.outcome.Verdict.TheVariants.{Free, Blocked}

abbrev pub verdict_word : Verdict → List ℕ
verdict_word Free = codes "free"
verdict_word Blocked = codes "blocked"
