-- What decides all numbers, whatever the way in which they are found. Private functions alone cite it.
use Rattle.std.specs.Prelude.{◌≡◌, ℕ, suc, ◌<◌, ◌≤◌, ◌⊎◌, true}
use Rattle.numbering.specs.Systems.{System, Way}
use Rattle.numbering.specs.Numbers.{held_number}
use Rattle.numbering.specs.Rounds.{Met}

-- A number below the bound is above that of a way of each need, and exceeds by no more than 1 those of the ways of one need, unless it
-- is 0. Any other is that of held items, and is that of all ways of a need. The bound is 1 more than the greatest number, or 0.
pub record Decided (s : System) (number : ℕ → ℕ) (bound : ℕ) : Type 0 where
  pub few : bound ≤ s.items
  pub each : (i : ℕ) → i < s.items → number i < bound → (j : ℕ) → Met s number i (number i) j
  pub last : (i : ℕ) → i < s.items → number i < bound → (number i ≡ 0) ⊎ ((j : ℕ) × (s.need i j ≡ true) × ((h : ℕ) → Way s i j h → number i ≤ suc (number h)))
  pub held : (i : ℕ) → i < s.items → bound ≤ number i → (number i ≡ held_number) × ((j : ℕ) × (s.need i j ≡ true) × ((h : ℕ) → Way s i j h → number h ≡ held_number))
  pub given : (bound ≡ 0) ⊎ ((i : ℕ) × (i < s.items) × (suc (number i) ≡ bound))
