-- What checking a network gives.
use Rattle.std.specs.Prelude.{◌≡◌, ℕ, ◌<◌, ◌≤◌, ◌↔◌, true, List, [], ◌∷◌, length, Some, None, Ok, Err, Option, Result, slice_get, slice_index}
use Rattle.networks.specs.Allowed.{pairs, said}
use Rattle.networks.specs.Cleared.{AllZero}
use Rattle.networks.specs.Nets.{Net}
use Rattle.networks.specs.Rooms.{Room, first_short}
use Rattle.networks.specs.declared.faults.Buffer.{Buffer}
use Rattle.networks.specs.declared.faults.Buffer.TheVariants as buffer
use Rattle.networks.specs.declared.faults.StudyFault.{StudyFault}
use Rattle.networks.specs.declared.faults.StudyFault.TheVariants.{Short}
use Rattle.numbering.specs.Systems.{System, Way}
use Rattle.numbering.specs.Numbers.{held_number}
use Rattle.numbering.specs.Outcomes.{Outcome}
use Rattle.tracing.specs.Traces.{Traced}
use Rattle.escapes.specs.Escaping.{escape}
use Rattle.loads.specs.Loads.{packet, Blocked}
use Rattle.loads.specs.declared.LoadRecord.{LoadRecord}
use Rattle.checks.specs.declared.outcome.Check.{Check}
use Rattle.checks.specs.declared.outcome.Verdict.{Verdict}
use Rattle.checks.specs.declared.outcome.Verdict.TheVariants as verdicts

-- The need that item c has at slot d has only held ways.
abbrev pub Shut : System → (ℕ → ℕ) → ℕ → ℕ → Type 0
Shut s number c d = (s.need c d ≡ true) × ((h : ℕ) → Way s c d h → number h ≡ held_number)

-- d is the lowest slot whose need has only held ways.
pub record LowestShut (s : System) (number : ℕ → ℕ) (c d : ℕ) : Type 0 where
  pub shut : Shut s number c d
  pub below : (e : ℕ) → e < d → Shut s number c e → ⊥

-- Our load is the one that a check writes. What it has in channel c: a packet for the lowest place whose need has only held
-- ways if the channel is held, and nothing if it is not.
pub record OurPacket (s : System) (number : ℕ → ℕ) (c : ℕ) (p : Option ℕ) : Type 0 where
  pub held : number c ≡ held_number → (d : ℕ) × (p ≡ Some d) × LowestShut s number c d
  pub free : (number c ≡ held_number → ⊥) → p ≡ None

-- our load
abbrev pub Ours : System → (ℕ → ℕ) → List LoadRecord → Type 0
Ours s number load = (c : ℕ) → c < s.items → OurPacket s number c (packet load c)

-- The network is free if every channel is numbered, and blocked otherwise.
abbrev pub Judged : Verdict → System → (ℕ → ℕ) → Type 0
Judged verdicts.Free s number = (c : ℕ) → c < s.items → number c ≡ held_number → ⊥
Judged verdicts.Blocked s number = (c : ℕ) × (c < s.items) × (number c ≡ held_number)

-- The table tells which pairs are allowed, the channels have the numbers that are defined, and the verdict and our load follow from
-- these. Where the network is free no load is blocked, and our load is blocked exactly where it is not. What lies beyond the
-- channels is as it was.
pub record Checked (n : Net) (allowed allowed' numbers numbers' : List ℕ) (load load' : List LoadRecord) (a : Check) : Type 0 where
  pub traced : (ones : ℕ) × Traced n allowed allowed' ones
  pub numbered : Outcome (escape n (said allowed')) numbers numbers' a.numbering
  pub verdict : Judged a.verdict (escape n (said allowed')) (slice_index numbers')
  pub ours : Ours (escape n (said allowed')) (slice_index numbers') load'
  pub beyond : (k : ℕ) → n.channels ≤ k → slice_get load' k ≡ slice_get load k
  pub none_blocked : a.verdict ≡ verdicts.Free → (other : List LoadRecord) → Blocked n other → ⊥
  pub blocked : (a.verdict ≡ verdicts.Blocked) ↔ Blocked n load'

-- The buffers that a check is lent: a byte and a word of work for each pair, and a number and a record for each channel.
abbrev pub rooms : Net → List ℕ → List ℕ → List LoadRecord → ℕ → List Room
rooms n allowed numbers load work =
    record { buffer = buffer.Allowed; needed = pairs n; given = length allowed } ∷ (record { buffer = buffer.Numbers; needed = n.channels; given = length numbers } ∷ (record { buffer = buffer.Load; needed = n.channels; given = length load } ∷ (record { buffer = buffer.Work; needed = pairs n; given = work } ∷ [])))

-- The check, or the first buffer that is too short, and then the other buffers are as they were.
abbrev pub Checks : Net → List ℕ → List ℕ → List LoadRecord → ℕ → Result Check StudyFault → List ℕ → List ℕ → List LoadRecord → Type 0
Checks n allowed numbers load work (Ok a) allowed' numbers' load' =
    (first_short (rooms n allowed numbers load work) ≡ None) × Checked n allowed allowed' numbers numbers' load load' a
Checks n allowed numbers load work (Err f) allowed' numbers' load' =
    (b : Buffer) × (first_short (rooms n allowed numbers load work) ≡ Some b) × (f ≡ Short b) × (allowed' ≡ allowed) × (numbers' ≡ numbers) × (load' ≡ load)

-- What a check leaves: its answer, and what stands in the buffers and in the work area.
pub record Left : Type 0 where
  pub answer : Result Check StudyFault
  pub allowed : List ℕ
  pub numbers : List ℕ
  pub load : List LoadRecord
  pub work : List ℕ

-- A check may leave this of buffers and a work area that held these. Lent buffers keep their lengths.
pub record Leaves (n : Net) (allowed numbers : List ℕ) (load : List LoadRecord) (work : List ℕ) (x : Left) : Type 0 where
  pub checks : Checks n allowed numbers load (length work) x.answer x.allowed x.numbers x.load
  pub cleared : AllZero x.work
  pub bytes : length x.allowed ≡ length allowed
  pub each : length x.numbers ≡ length numbers
  pub records : length x.load ≡ length load
  pub words : length x.work ≡ length work
