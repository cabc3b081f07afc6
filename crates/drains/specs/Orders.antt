-- In which order packets are brought home, and by which ways.
use Rattle.std.specs.Prelude.{◌≡◌, ℕ, zero, suc, ◌<◌, ◌≤◌, ◌⊎◌, true, false, List, [], ◌∷◌, Some}
use Rattle.networks.specs.Nets.{Net, WayAt}
use Rattle.loads.specs.Loads.{At, Holds}
use Rattle.loads.specs.Runs.{Call, MoveOn, Take, Gives, Step, accepted}
use Rattle.loads.specs.declared.LoadRecord.{LoadRecord}

-- Channel e comes before channel c: it has a smaller number, or the same number and is lower.
abbrev pub Before : (ℕ → ℕ) → ℕ → ℕ → Type 0
Before number e c = (number e < number c) ⊎ ((number e ≡ number c) × (e < c))

-- The first packet, for d, stands in channel c: there is none in a channel that comes before. A packet that moves to a smaller number is
-- the first one again, so it goes home before any other packet moves.
pub record First (n : Net) (number : ℕ → ℕ) (l : List LoadRecord) (c d : ℕ) : Type 0 where
  pub stands : At n l c d
  pub none_before : (e : ℕ) → Before number e c → Holds n l e → ⊥

-- Of the ways of the pair, the first to a channel with a smaller number is that at position k, to channel h.
pub record FirstSmaller (n : Net) (number : ℕ → ℕ) (c d k h : ℕ) : Type 0 where
  pub way : WayAt (n.ways c d) k (Some h)
  pub smaller : number h < number c
  pub none_before : (j g : ℕ) → j < k → WayAt (n.ways c d) j (Some g) → number c ≤ number g

-- The call that comes next: the first packet is taken if it is home, and moves by its first way to a smaller number if it is not.
pub data Next (n : Net) (number : ℕ → ℕ) (l : List LoadRecord) : Call → Type 0 where
  home : (c d : ℕ) → First n number l c d → n.home c d ≡ true → Next n number l (Take c)
  away : (c d k h : ℕ) → First n number l c d → n.home c d ≡ false → FirstSmaller n number c d k h → Next n number l (MoveOn c k)

-- A run in order: each call is the one that comes next, and is accepted.
pub data InOrder (n : Net) (number : ℕ → ℕ) : List LoadRecord → List Step → List LoadRecord → Type 0 where
  ends : {l : List LoadRecord} → InOrder n number l [] l
  next : {l m o : List LoadRecord} {s : Step} {ss : List Step} → Next n number l s.call → accepted s.call s.answer ≡ true → Gives n l s.call s.answer m → InOrder n number m ss o → InOrder n number l (s ∷ ss) o

-- From channel c a packet for d comes home by its first ways to smaller numbers, in so many moves.
pub data ComesHome (n : Net) (number : ℕ → ℕ) (d : ℕ) : ℕ → ℕ → Type 0 where
  home : {c : ℕ} → n.home c d ≡ true → ComesHome n number d c zero
  away : {c k h moves : ℕ} → n.home c d ≡ false → FirstSmaller n number c d k h → ComesHome n number d h moves → ComesHome n number d c (suc moves)
