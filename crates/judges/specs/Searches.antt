-- What the searches of the judges rest on, and what they find. Cited by private functions alone.
use Rattle.std.specs.Prelude.{ℕ, ◌<◌, List}
use Rattle.networks.specs.Nets.{Net}
use Rattle.tracing.specs.Traces.{Traced}

-- the table tells of each pair of the network whether it is allowed
abbrev pub TableOf : Net → List ℕ → Type 0
TableOf n table = (before : List ℕ) × (ones : ℕ) × Traced n before table ones

-- d is the lowest place of the pairs of channel c that offend.
pub record LowestPlace (Offending : ℕ → ℕ → Type 0) (c d : ℕ) : Type 0 where
  pub offends : Offending c d
  pub below : (e : ℕ) → e < d → Offending c e → ⊥
