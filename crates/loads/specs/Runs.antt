-- Runs: lists of calls, one after the other, on one load of one network.
use Rattle.std.specs.Prelude.{◌≡◌, ℕ, Bool, true, false, List, [], ◌∷◌, map, ⊤, Result, is_ok, count_by, ◌&&◌}
use Rattle.networks.specs.Nets.{Net}
use Rattle.loads.specs.Calls.{Puts, Moves, Takes}
use Rattle.loads.specs.declared.LoadRecord.{LoadRecord}
use Rattle.loads.specs.declared.faults.LoadFault.{LoadFault}

-- A call on a load: a packet for a place is put into a channel; the packet of a channel moves on by the way at a position; the
-- packet of a channel is taken.
pub data Call : Type 0 where
  Put : ℕ → ℕ → Call
  MoveOn : ℕ → ℕ → Call
  Take : ℕ → Call

abbrev pub Answer : Call → Type 0
Answer (Put c d) = Result ⊤ LoadFault
Answer (MoveOn c k) = Result ⊤ LoadFault
Answer (Take c) = Result ℕ LoadFault

-- The call answers so, and then there is this load.
abbrev pub Gives : Net → List LoadRecord → (call : Call) → Answer call → List LoadRecord → Type 0
Gives n l (Put c d) = Puts n l c d
Gives n l (MoveOn c k) = Moves n l c k
Gives n l (Take c) = Takes n l c

-- a call with its answer
pub record Step : Type 0 where
  pub call : Call
  pub answer : Answer call

-- A run makes a list of calls, refused ones among them: each starts from the load that there is after the one before.
pub data Run (n : Net) : List LoadRecord → List Step → List LoadRecord → Type 0 where
  ends : {l : List LoadRecord} → Run n l [] l
  next : {l m o : List LoadRecord} {s : Step} {ss : List Step} → Gives n l s.call s.answer m → Run n m ss o → Run n l (s ∷ ss) o

-- whether a call is accepted, which it is if it is not refused
abbrev pub accepted : (call : Call) → Answer call → Bool
accepted (Put c d) a = is_ok a
accepted (MoveOn c k) a = is_ok a
accepted (Take c) a = is_ok a

-- whether a call is a move or a take
abbrev pub progress : Call → Bool
progress (Put c d) = false
progress (MoveOn c k) = true
progress (Take c) = true

-- how many moves and takes were accepted
abbrev pub progress_made : List Step → ℕ
progress_made ss = count_by (λ s. progress s.call && accepted s.call s.answer) ss

-- A list of calls has this one run from the load: with these answers, to this load at the end.
pub record OneRun (n : Net) (l : List LoadRecord) (calls : List Call) : Type 0 where
  pub steps : List Step
  pub end : List LoadRecord
  pub made : map (λ (s : Step). s.call) steps ≡ calls
  pub run : Run n l steps end
  pub only : (ss : List Step) (m : List LoadRecord) → map (λ (s : Step). s.call) ss ≡ calls → Run n l ss m → (ss ≡ steps) × (m ≡ end)
