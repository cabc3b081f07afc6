-- The making of Spidergons.
use Rattle.std.specs.Prelude.{◌≡◌, ℕ, ◌≤◌, ◌↔◌, Ok, Err, Result}
use Rattle.networks.specs.declared.faults.StudyFault.{StudyFault}
use Rattle.networks.specs.declared.faults.StudyFault.TheVariants.{SpidergonSize}
use Rattle.spidergon.specs.Arrival.{Arrives, ByRoutes}
use Rattle.spidergon.specs.declared.ring.Spidergon.{Spidergon}

-- the sizes that there are
pub record Sized (n : ℕ) : Type 0 where
  pub some : 1 ≤ n
  pub few : n ≤ 64

-- The Spidergon of size n: every route is home within m moves past its entry exactly if m is at least n. What being home within so
-- many moves says of routes holds of whatever network.
pub record Built (n : ℕ) (s : Spidergon) : Type 0 where
  pub sized : Sized n
  pub same : s.size ≡ n
  pub arrives : (m : ℕ) → Arrives n m ↔ n ≤ m
  pub routes : ByRoutes

-- One is made of each size that there is, and of no other.
abbrev pub Builds : ℕ → Result Spidergon StudyFault → Type 0
Builds n (Ok s) = Built n s
Builds n (Err f) = (Sized n → ⊥) × (f ≡ SpidergonSize)
