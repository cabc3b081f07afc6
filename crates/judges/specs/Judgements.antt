-- What judges say of numberings and of loads.
use Rattle.std.specs.Prelude.{◌≡◌, ℕ, ◌<◌, ◌≤◌, true, false, List, None}
use Rattle.networks.specs.Allowed.{Allowed}
use Rattle.networks.specs.Nets.{Net, Way}
use Rattle.loads.specs.Loads.{packet, At, Blocked}
use Rattle.loads.specs.declared.LoadRecord.{LoadRecord}
use Rattle.certificates.specs.Promises.{Emptied, SoundOfAll}
use Rattle.judges.specs.declared.LoadJudged.{LoadJudged}
use Rattle.judges.specs.declared.LoadJudged.TheVariants as load_judged
use Rattle.judges.specs.declared.NumbersJudged.{NumbersJudged}
use Rattle.judges.specs.declared.NumbersJudged.TheVariants as numbers_judged

-- (c, d) is the lowest of the pairs that offend: no pair of a lower channel does, nor one of the same channel with a lower place.
pub record Lowest (Offending : ℕ → ℕ → Type 0) (c d : ℕ) : Type 0 where
  pub offends : Offending c d
  pub channel : (e f : ℕ) → e < c → Offending e f → ⊥
  pub place : (f : ℕ) → f < d → Offending c f → ⊥

-- What offends against the soundness of a numbering: packets for d can reach channel c and are not home there, but no way leads to a smaller
-- number.
pub record NoSmaller (n : Net) (number : ℕ → ℕ) (c d : ℕ) : Type 0 where
  pub allowed : Allowed n c d
  pub away : n.home c d ≡ false
  pub none : (h : ℕ) → Way n c d h → number c ≤ number h

-- What offends against a load's being blocked: the packet of channel c, for d, is not allowed, is home, or has a way to a channel without a
-- packet.
pub data Loose (n : Net) (l : List LoadRecord) (c d : ℕ) : Type 0 where
  not_allowed : At n l c d → (Allowed n c d → ⊥) → Loose n l c d
  home : At n l c d → n.home c d ≡ true → Loose n l c d
  empty_way : (h : ℕ) → At n l c d → Way n c d h → packet l h ≡ None → Loose n l c d

-- what is said of a numbering of all channels
abbrev pub SaidOfNumbers : Net → (ℕ → ℕ) → NumbersJudged → Type 0
SaidOfNumbers n number numbers_judged.Sound = SoundOfAll n number
SaidOfNumbers n number (numbers_judged.Offends p) = Lowest (NoSmaller n number) p.channel p.place

-- what is said of a load
abbrev pub SaidOfLoad : Net → List LoadRecord → LoadJudged → Type 0
SaidOfLoad n l load_judged.Blocked = Blocked n l
SaidOfLoad n l (load_judged.Offends p) = Lowest (Loose n l) p.channel p.place
SaidOfLoad n l load_judged.NoPacket = Emptied n l

-- This is what is said, and nothing else is.
pub record Judgement {A : Type 0} (Said : A → Type 0) (a : A) : Type 0 where
  pub holds : Said a
  pub only : (b : A) → Said b → b ≡ a
