-- What is found for a network file and a result file together. Cited by private functions alone.
use Rattle.std.specs.Prelude.{◌≡◌, ℕ, ◌<◌, ◌≤◌, List, length}
use Rattle.networks.specs.declared.faults.Buffer.TheVariants.{File}
use Rattle.networks.specs.declared.faults.StudyFault.{StudyFault}
use Rattle.networks.specs.declared.faults.StudyFault.TheVariants.{Short}
use Rattle.networks.specs.Nets.{Net}
use Rattle.answers.specs.Prints.{most_bytes, Takes, Accepts, Rejects, Starves}
use Rattle.answers.specs.Results.{IsResult, NoResult}
use Rattle.answers.specs.Rows.{bad_number, bad_at}
use Rattle.answers.specs.Judgings.{numbers_line, load_line, Judged}
use Rattle.answers.specs.declared.results.ResultFault.{ResultFault}
use Rattle.answers.specs.declared.judging.Ruling.{Ruling}
use Rattle.answers.specs.declared.judging.Ruling.TheVariants as ruling
use Rattle.answers.specs.declared.judging.Judgement.{Judgement}
use Rattle.answers.specs.declared.judging.Refusal.{Refusal}
use Rattle.answers.specs.declared.judging.Refusal.TheVariants as refusal

-- the line of what is judged
abbrev pub ruling_line : Ruling → List ℕ
ruling_line (ruling.Numbers j) = numbers_line j
ruling_line (ruling.Load j) = load_line j

-- Both files are taken, and the result is judged.
pub record Concludes (input file : List ℕ) (j : Judgement) : Type 0 where
  pub network : Net
  pub accepts : Accepts input network j.findings
  pub short : length file ≤ most_bytes
  pub result : IsResult network.channels file j.claims.check j.claims.numbers j.claims.load
  pub judged : Judged network j.claims.check j.claims.numbers j.claims.load (ruling_line j.ruling)

-- Why one of them is not.
pub data Refuses (input file : List ℕ) (r : Refusal) : Type 0 where
  rejects : (f : StudyFault) → Rejects input f → r ≡ refusal.Study f → Refuses input file r
  starves : (f : StudyFault) → Starves input f → r ≡ refusal.Study f → Refuses input file r
  long : (n : Net) → Takes input n → most_bytes < length file → r ≡ refusal.Study (Short File) → Refuses input file r
  no_result : (n : Net) → Takes input n → length file ≤ most_bytes → (f : ResultFault) → NoResult n.channels file (bad_number f) (bad_at f) → r ≡ refusal.Result f → Refuses input file r
