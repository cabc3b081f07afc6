-- The channels that were passed while a load is emptied hold no packet any more.
use Rattle.std.proofs.Common.{◌≡◌, ℕ, ◌+◌, ◌<◌, ◌⊎◌, inl, inr, List, arith}
use native.Mathlib.Decide.{ℕ_discrete}
use Rattle.networks.specs.Nets.{Net}
use Rattle.networks.specs.Nets as nets
use Rattle.loads.specs.Loads.{Holds, AllowedLoad}
use Rattle.loads.specs.declared.LoadRecord.{LoadRecord}
use Rattle.certificates.specs.Promises.{Emptied}
use Rattle.certificates.proofs.Allowing.{keeps_allowed}
use Rattle.drains.specs.Emptying.{Called, ClearedTo}
use Rattle.drains.proofs.Walking.{order_runs, not_called, called_more}

-- no channel holds a packet that has a number below k, or the number k and is below c
abbrev Cleared : Net → (ℕ → ℕ) → ℕ → ℕ → List LoadRecord → Type 0
Cleared n number k c l = (e : ℕ) → (number e < k) ⊎ ((number e ≡ k) × (e < c)) → Holds n l e → ⊥

-- After so many calls no channel holds a packet that has a number below k, or the number k and is below c.
pub record Sweep (n : Net) (number : ℕ → ℕ) (l m : List LoadRecord) (k c calls : ℕ) : Type 0 where
  pub called : Called n number l m calls
  pub allowed : AllowedLoad n m
  pub cleared : Cleared n number k c m

module _ (n : Net) (number : ℕ → ℕ) (l : List LoadRecord) where
  pub sweep_starts : AllowedLoad n l → Sweep n number l l 0 0 0
  sweep_starts allowed = record { called = not_called n number l; allowed = allowed; cleared = none }
    where
      none : Cleared n number 0 0 l
      none e (inl x) h = omega arith
      none e (inr x) h = omega (arith, x.1)

  -- a channel with another number is passed over
  pub sweep_over : (m : List LoadRecord) (k c calls : ℕ) → Sweep n number l m k c calls → (number c ≡ k → ⊥) → Sweep n number l m k (c + 1) calls
  sweep_over m k c calls s other = record { called = s.called; allowed = s.allowed; cleared = none }
    where
      last : (e : ℕ) → number e ≡ k → e < c + 1 → Holds n m e → Dec (e ≡ c) → ⊥
      last e same lt h (yes is) = let here : number c ≡ k = rw is at same in other here
      last e same lt h (no ne) = s.cleared e (inr (same, omega (arith, ne))) h

      none : Cleared n number k (c + 1) m
      none e (inl x) h = s.cleared e (inl x) h
      none e (inr x) h = last e x.0 x.1 h (ℕ_discrete e c)

  -- the packet of a channel with the number is brought home
  pub sweep_home : nets.Conditions n → (m m' : List LoadRecord) (k c calls more : ℕ) → Sweep n number l m k c calls → number c ≡ k → Called n number m m' more → ClearedTo n number c m' → Sweep n number l m' k (c + 1) (calls + more)
  sweep_home ok m m' k c calls more s same called cleared = record {
    called = called_more n number l m m' calls more s.called called;
    allowed = keeps_allowed n ok m m' called.steps s.allowed (order_runs n number m m' called.steps called.order);
    cleared = none;
  }
    where
      last : (e : ℕ) → number e ≡ k → e < c + 1 → Holds n m' e → Dec (e ≡ c) → ⊥
      last e is lt h (yes here) = cleared e (inr here) h
      last e is lt h (no ne) = cleared e (inl (inr (omega arith, omega (arith, ne)))) h

      none : Cleared n number k (c + 1) m'
      none e (inl x) h = cleared e (inl (inl (omega arith))) h
      none e (inr x) h = last e x.0 x.1 h (ℕ_discrete e c)

  -- the next number
  pub sweep_next : (m : List LoadRecord) (k calls : ℕ) → Sweep n number l m k n.channels calls → Sweep n number l m (k + 1) 0 calls
  sweep_next m k calls s = record { called = s.called; allowed = s.allowed; cleared = none }
    where
      at_most : (e : ℕ) → number e < k + 1 → Holds n m e → Dec (number e ≡ k) → ⊥
      at_most e lt h (yes same) = s.cleared e (inr (same, h.1.0)) h
      at_most e lt h (no ne) = s.cleared e (inl (omega (arith, ne))) h

      none : Cleared n number (k + 1) 0 m
      none e (inl x) h = at_most e x h (ℕ_discrete (number e) k)
      none e (inr x) h = absurd (omega (arith, x.1))

  -- past the greatest number the load is empty
  pub sweep_ends : (m : List LoadRecord) (k calls : ℕ) → Sweep n number l m k 0 calls → ((c : ℕ) → c < n.channels → number c < k) → Emptied n m
  sweep_ends m k calls s below c h = s.cleared c (inl (below c h.1.0)) h
