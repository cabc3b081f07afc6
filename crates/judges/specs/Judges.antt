-- What judging gives.
use Rattle.std.specs.Prelude.{◌≡◌, ℕ, ◌<◌, ◌≤◌, ◌↔◌, true, false, nat_lt, List, [], ◌∷◌, length, Some, None, Ok, Err, Result, slice_index}
use Rattle.networks.specs.Allowed.{Allowed, pairs, said}
use Rattle.networks.specs.Cleared.{AllZero}
use Rattle.networks.specs.Nets.{Net}
use Rattle.networks.specs.Rooms.{Room, first_short}
use Rattle.networks.specs.declared.faults.Buffer.{Buffer}
use Rattle.networks.specs.declared.faults.Buffer.TheVariants as buffer
use Rattle.networks.specs.declared.faults.StudyFault.{StudyFault}
use Rattle.networks.specs.declared.faults.StudyFault.TheVariants.{Short}
use Rattle.numbering.specs.Numbers.{Sound}
use Rattle.tracing.specs.Traces.{Traced}
use Rattle.escapes.specs.Escaping.{escape}
use Rattle.loads.specs.Loads.{packet, Holds}
use Rattle.loads.specs.declared.LoadRecord.{LoadRecord}
use Rattle.checks.specs.declared.outcome.Verdict.TheVariants as verdicts
use Rattle.certificates.specs.Certificates.{Certified}
use Rattle.certificates.specs.declared.Certificate.{Certificate}
use Rattle.judges.specs.Judgements.{SaidOfNumbers, SaidOfLoad, Judgement}
use Rattle.judges.specs.declared.LoadJudged.{LoadJudged}
use Rattle.judges.specs.declared.LoadJudged.TheVariants as load_judged
use Rattle.judges.specs.declared.NumbersJudged.{NumbersJudged}
use Rattle.judges.specs.declared.NumbersJudged.TheVariants as numbers_judged

-- A certificate of a network, with the numbers of the channels and the load that it wrote, whatever the buffers held before.
pub record CertificateOf (n : Net) : Type 0 where
  pub allowed : List ℕ
  pub allowed' : List ℕ
  pub numbers : List ℕ
  pub numbers' : List ℕ
  pub load : List LoadRecord
  pub load' : List LoadRecord
  pub longest : List ℕ
  pub longest' : List ℕ
  pub answer : Certificate
  pub certified : Certified n allowed allowed' numbers numbers' load load' longest longest' answer

-- The table tells which pairs are allowed. The numbering of all channels is sound, or this is the lowest pair that offends. By that table the
-- needs of the channels' release system are the allowed pairs that are not home, and the numbering is sound exactly if it is sound for that
-- system. The numbers that a certificate has of a free network are judged sound; and where numbers are judged sound, every certificate says that
-- the network is free, and has no greater numbers.
pub record NumbersTried (n : Net) (allowed allowed' numbers : List ℕ) (a : NumbersJudged) : Type 0 where
  pub traced : (ones : ℕ) × Traced n allowed allowed' ones
  pub judged : Judgement (SaidOfNumbers n (slice_index numbers)) a
  pub needs : (c d : ℕ) → ((escape n (said allowed')).need c d ≡ true) ↔ (Allowed n c d × (n.home c d ≡ false))
  pub soundness : (a ≡ numbers_judged.Sound) ↔ Sound (escape n (said allowed')) (λ c. nat_lt c n.channels) (slice_index numbers)
  pub own : (x : CertificateOf n) → x.answer.check.verdict ≡ verdicts.Free → ((c : ℕ) → c < n.channels → slice_index numbers c ≡ slice_index x.numbers' c) → a ≡ numbers_judged.Sound
  pub forces : (x : CertificateOf n) → a ≡ numbers_judged.Sound → (x.answer.check.verdict ≡ verdicts.Free) × ((c : ℕ) → c < n.channels → slice_index x.numbers' c ≤ slice_index numbers c)

-- The table tells which pairs are allowed. The load is blocked, or this is the lowest packet that offends, or it has no packet. The load that a
-- certificate has of a blocked network is judged blocked; and where a load is judged blocked, every certificate says that the network is
-- blocked, and its load has a packet wherever that one has.
pub record LoadTried (n : Net) (allowed allowed' : List ℕ) (load : List LoadRecord) (a : LoadJudged) : Type 0 where
  pub traced : (ones : ℕ) × Traced n allowed allowed' ones
  pub judged : Judgement (SaidOfLoad n load) a
  pub own : (x : CertificateOf n) → x.answer.check.verdict ≡ verdicts.Blocked → ((c : ℕ) → c < n.channels → packet load c ≡ packet x.load' c) → a ≡ load_judged.Blocked
  pub forces : (x : CertificateOf n) → a ≡ load_judged.Blocked → (x.answer.check.verdict ≡ verdicts.Blocked) × ((c : ℕ) → Holds n load c → Holds n x.load' c)

-- The buffers that a judge is lent: a byte and a word of work for each pair, and a number or a record for each channel.
abbrev pub rooms : Net → ℕ → Buffer → ℕ → ℕ → List Room
rooms n allowed judged given work =
    record { buffer = buffer.Allowed; needed = pairs n; given = allowed }
    ∷ (record { buffer = judged; needed = n.channels; given = given } ∷ (record { buffer = buffer.Work; needed = pairs n; given = work } ∷ []))

-- The judgement, or the first buffer that is too short, and then the table is as it was.
abbrev pub JudgesNumbers : Net → List ℕ → List ℕ → ℕ → Result NumbersJudged StudyFault → List ℕ → Type 0
JudgesNumbers n allowed numbers work (Ok a) allowed' =
    (first_short (rooms n (length allowed) buffer.Numbers (length numbers) work) ≡ None) × NumbersTried n allowed allowed' numbers a
JudgesNumbers n allowed numbers work (Err f) allowed' =
    (b : Buffer) × (first_short (rooms n (length allowed) buffer.Numbers (length numbers) work) ≡ Some b) × (f ≡ Short b) × (allowed' ≡ allowed)

abbrev pub JudgesLoad : Net → List ℕ → List LoadRecord → ℕ → Result LoadJudged StudyFault → List ℕ → Type 0
JudgesLoad n allowed load work (Ok a) allowed' =
    (first_short (rooms n (length allowed) buffer.Load (length load) work) ≡ None) × LoadTried n allowed allowed' load a
JudgesLoad n allowed load work (Err f) allowed' =
    (b : Buffer) × (first_short (rooms n (length allowed) buffer.Load (length load) work) ≡ Some b) × (f ≡ Short b) × (allowed' ≡ allowed)

-- What judging leaves: its answer, and what stands in the table and in the work area.
pub record Left (Judged : Type 0) : Type 0 where
  pub answer : Result Judged StudyFault
  pub allowed : List ℕ
  pub work : List ℕ

-- Judging of numbers, and of a load, may leave this of a table and a work area that held these. Lent buffers keep their lengths.
pub record LeavesOfNumbers (n : Net) (allowed numbers work : List ℕ) (x : Left NumbersJudged) : Type 0 where
  pub judges : JudgesNumbers n allowed numbers (length work) x.answer x.allowed
  pub cleared : AllZero x.work
  pub bytes : length x.allowed ≡ length allowed
  pub words : length x.work ≡ length work

pub record LeavesOfLoad (n : Net) (allowed : List ℕ) (load : List LoadRecord) (work : List ℕ) (x : Left LoadJudged) : Type 0 where
  pub judges : JudgesLoad n allowed load (length work) x.answer x.allowed
  pub cleared : AllZero x.work
  pub bytes : length x.allowed ≡ length allowed
  pub words : length x.work ≡ length work
