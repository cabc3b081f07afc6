-- What netcheck prints of a result file.
use Rattle.std.specs.Prelude.{◌≡◌, ℕ, zero, suc, ◌<◌, ◌≤◌, ◌⊎◌, List, [], ◌∷◌, ◌++◌, length, codes, Option, slice_index}
use Rattle.networks.specs.declared.faults.Buffer.TheVariants.{File}
use Rattle.networks.specs.declared.faults.StudyFault.{StudyFault}
use Rattle.networks.specs.declared.faults.StudyFault.TheVariants.{Table, Short}
use Rattle.networks.specs.declared.faults.TableFault.TheVariants.{NoMemory}
use Rattle.networks.specs.Faults.{study_parts}
use Rattle.networks.specs.Nets.{Net}
use Rattle.loads.specs.Loads.{packet}
use Rattle.loads.specs.declared.LoadRecord.{LoadRecord}
use Rattle.checks.specs.declared.outcome.Check.{Check}
use Rattle.checks.specs.declared.outcome.Verdict.TheVariants as verdicts
use Rattle.judges.specs.Judges.{NumbersTried, LoadTried}
use Rattle.judges.specs.declared.LoadJudged.{LoadJudged}
use Rattle.judges.specs.declared.LoadJudged.TheVariants as load_judged
use Rattle.judges.specs.declared.NumbersJudged.{NumbersJudged}
use Rattle.judges.specs.declared.NumbersJudged.TheVariants as numbers_judged
use Rattle.answers.specs.Prints.{field, last_field, fault_line, mark, number_of, most_bytes, Takes, Accepts, Rejects, Starves}
use Rattle.answers.specs.Results.{IsResult, NoResult}
use Rattle.answers.specs.declared.Findings.{Findings}

-- the line of a refused result file
abbrev pub result_line : ℕ → ℕ → List ℕ
result_line number line = codes "fault\tresult\t" ++ field number (field line (last_field 0))

-- the line of a judgement
abbrev pub numbers_line : NumbersJudged → List ℕ
numbers_line numbers_judged.Sound = codes "judge\tsound\t-\t-\n"
numbers_line (numbers_judged.Offends p) = codes "judge\tunsound\t" ++ field p.channel (last_field p.place)

abbrev pub load_line : LoadJudged → List ℕ
load_line load_judged.Blocked = codes "judge\tblocked\t-\t-\n"
load_line (load_judged.Offends p) = codes "judge\tunblocked\t" ++ field p.channel (last_field p.place)
load_line load_judged.NoPacket = codes "judge\tunblocked\t-\t-\n"

-- the line of a channel: its number and its place, ours and theirs
abbrev pub both_line : ℕ → ℕ → Option ℕ → ℕ → Option ℕ → List ℕ
both_line c word place word' place' =
    codes "c\t" ++ field c (mark (number_of word) ++ (9 ∷ (mark place ++ (9 ∷ (mark (number_of word') ++ (9 ∷ (mark place' ++ (10 ∷ []))))))))

-- the lines of the first n channels
unfoldable pub both_lines : List ℕ → List LoadRecord → List ℕ → List LoadRecord → ℕ → List ℕ
both_lines numbers load numbers' load' zero = []
both_lines numbers load numbers' load' (suc c) =
    both_lines numbers load numbers' load' c ++ both_line c (slice_index numbers c) (packet load c) (slice_index numbers' c) (packet load' c)

-- What is judged of a result: its numbers, as a numbering of all channels, if it says that the network is free; else its load.
pub data Judged (n : Net) (k : Check) (numbers : List ℕ) (load : List LoadRecord) : List ℕ → Type 0 where
  of_numbers : (table table' : List ℕ) (j : NumbersJudged) → k.verdict ≡ verdicts.Free → NumbersTried n table table' numbers j → Judged n k numbers load (numbers_line j)
  of_load : (table table' : List ℕ) (j : LoadJudged) → k.verdict ≡ verdicts.Blocked → LoadTried n table table' load j → Judged n k numbers load (load_line j)

-- What is printed for a network file and a result file: the fault of the network file; or that of the result file; or the judgement, and for
-- each channel what both say.
pub data Referees (input file text : List ℕ) : Type 0 where
  rejects : (f : StudyFault) → Rejects input f → text ≡ fault_line (study_parts f) → Referees input file text
  long : (n : Net) → Takes input n → most_bytes < length file → text ≡ fault_line (study_parts (Short File)) → Referees input file text
  no_result : (n : Net) → Takes input n → length file ≤ most_bytes → (number line : ℕ) → NoResult n.channels file number line → text ≡ result_line number line → Referees input file text
  judges : (n : Net) (a : Findings) → Accepts input n a → length file ≤ most_bytes → (k : Check) (numbers : List ℕ) (load : List LoadRecord) → IsResult n.channels file k numbers load → (first : List ℕ) → Judged n k numbers load first → text ≡ first ++ both_lines a.numbers a.load numbers load n.channels → Referees input file text

-- The text is what is printed for the two files, and nothing else is.
pub record OnlyReferees (input file text : List ℕ) : Type 0 where
  pub referees : Referees input file text
  pub only : (other : List ℕ) → Referees input file other → other ≡ text

-- Want of memory is answered too.
abbrev pub Refereed : List ℕ → List ℕ → List ℕ → Type 0
Refereed input file text = OnlyReferees input file text ⊎ (Starves input (Table NoMemory) × (text ≡ fault_line (study_parts (Table NoMemory))))
