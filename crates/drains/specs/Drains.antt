-- What draining gives.
use Rattle.std.specs.Prelude.{◌≡◌, ℕ, ◌<◌, ◌≤◌, List, length, Some, None, Ok, Err, Result, slice_index}
use Rattle.networks.specs.Allowed.{Allowed, said}
use Rattle.networks.specs.Cleared.{AllZero}
use Rattle.networks.specs.Nets.{Net}
use Rattle.networks.specs.Rooms.{first_short}
use Rattle.networks.specs.declared.faults.Buffer.{Buffer}
use Rattle.networks.specs.declared.faults.StudyFault.TheVariants.{Short}
use Rattle.numbering.specs.Outcomes.{Outcome}
use Rattle.numbering.specs.declared.Numbering.{Numbering}
use Rattle.tracing.specs.Traces.{Traced}
use Rattle.escapes.specs.Escaping.{escape}
use Rattle.loads.specs.Loads.{AllowedLoad}
use Rattle.loads.specs.Calls.{MayMove, with_packet, without_packet}
use Rattle.loads.specs.Runs.{Step, Run}
use Rattle.loads.specs.declared.LoadRecord.{LoadRecord}
use Rattle.checks.specs.Checks.{Judged, rooms}
use Rattle.checks.specs.declared.outcome.Verdict.{Verdict}
use Rattle.checks.specs.declared.outcome.Verdict.TheVariants as verdicts
use Rattle.certificates.specs.Promises.{Emptied, cost_of_load}
use Rattle.drains.specs.Orders.{First, InOrder, ComesHome}
use Rattle.drains.specs.declared.faults.DrainFault.{DrainFault}
use Rattle.drains.specs.declared.faults.DrainFault.TheVariants.{Study, Blocked, NotAllowed}

-- The load is emptied by a run in order, and no other run in order empties it. The answer is how many calls the run has: for each packet, the
-- moves that bring it home by its first ways to smaller numbers, and one for being taken. There is one number of these moves, and it is at most
-- the number of the packet's channel. So the answer is at most the sum, over the packets, of the number of the packet's channel and one. A packet
-- that has moved to a smaller number is the first again, so it goes home before any other moves.
pub record Drained (n : Net) (number : ℕ → ℕ) (load load' : List LoadRecord) (answer : ℕ) : Type 0 where
  pub steps : List Step
  pub run : Run n load steps load'
  pub order : InOrder n number load steps load'
  pub emptied : Emptied n load'
  pub again : (l : List LoadRecord) (c d k h : ℕ) → First n number l c d → number h < number c → MayMove n l c k d h → First n number (without_packet (with_packet l h d) c) h d
  pub only : (ss : List Step) (m : List LoadRecord) → InOrder n number load ss m → Emptied n m → (ss ≡ steps) × (m ≡ load')
  pub count : answer ≡ length steps
  pub moves : ℕ → ℕ → ℕ
  pub home : (c d : ℕ) → Allowed n c d → ComesHome n number d c (moves c d)
  pub one : (c d m : ℕ) → Allowed n c d → ComesHome n number d c m → m ≡ moves c d
  pub each : (c d : ℕ) → Allowed n c d → moves c d ≤ number c
  pub total : answer ≡ cost_of_load moves n load
  pub bound : answer ≤ cost_of_load (λ c d. number c) n load

-- The table tells which pairs are allowed, the channels have the numbers that are defined, and this is the verdict that follows.
pub record Filled (n : Net) (allowed allowed' numbers numbers' : List ℕ) (verdict : Verdict) : Type 0 where
  pub traced : (ones : ℕ) × Traced n allowed allowed' ones
  pub numbering : Numbering
  pub numbered : Outcome (escape n (said allowed')) numbers numbers' numbering
  pub judged : Judged verdict (escape n (said allowed')) (slice_index numbers')

-- Draining is lent the buffers of a check. An allowed load of a free network is drained. Else the answer is the first buffer that is too short, and
-- then all buffers are as they were; or that the network is blocked; or that the network is free and the load is not allowed. In these two cases the
-- table and the numbers are filled, and the load is as it was.
abbrev pub Drains : Net → List ℕ → List ℕ → List LoadRecord → ℕ → Result ℕ DrainFault → List ℕ → List ℕ → List LoadRecord → Type 0
Drains n allowed numbers load work (Ok answer) allowed' numbers' load' =
    (first_short (rooms n allowed numbers load work) ≡ None) × Filled n allowed allowed' numbers numbers' verdicts.Free × AllowedLoad n load × Drained n (slice_index numbers') load load' answer
Drains n allowed numbers load work (Err (Study f)) allowed' numbers' load' =
    (b : Buffer) × (first_short (rooms n allowed numbers load work) ≡ Some b) × (f ≡ Short b) × (allowed' ≡ allowed) × (numbers' ≡ numbers) × (load' ≡ load)
Drains n allowed numbers load work (Err Blocked) allowed' numbers' load' =
    (first_short (rooms n allowed numbers load work) ≡ None) × Filled n allowed allowed' numbers numbers' verdicts.Blocked × (load' ≡ load)
Drains n allowed numbers load work (Err NotAllowed) allowed' numbers' load' =
    (first_short (rooms n allowed numbers load work) ≡ None) × Filled n allowed allowed' numbers numbers' verdicts.Free × (AllowedLoad n load → ⊥) × (load' ≡ load)

-- What draining leaves: its answer, and what stands in the buffers and in the work area.
pub record Left : Type 0 where
  pub answer : Result ℕ DrainFault
  pub allowed : List ℕ
  pub numbers : List ℕ
  pub load : List LoadRecord
  pub work : List ℕ

-- Draining may leave this of buffers and a work area that held these. Lent buffers keep their lengths.
pub record Leaves (n : Net) (allowed numbers : List ℕ) (load : List LoadRecord) (work : List ℕ) (x : Left) : Type 0 where
  pub drains : Drains n allowed numbers load (length work) x.answer x.allowed x.numbers x.load
  pub cleared : AllZero x.work
  pub bytes : length x.allowed ≡ length allowed
  pub each : length x.numbers ≡ length numbers
  pub records : length x.load ≡ length load
  pub words : length x.work ≡ length work
