-- Tests of all numbers below a number, and of some; and of what has to be so under a condition.
use Rattle.std.proofs.Common.{◌≡◌, ℕ, zero, suc, ◌<◌, Bool, true, false, ◌&&◌, ◌||◌, not, refl, arith}
use Rattle.std.proofs.lemmas.Bool.Decides.{Decides-below_and, Decides-below_or}

abbrev pub each_below : (ℕ → Bool) → ℕ → Bool
each_below p zero = true
each_below p (suc n) = p n && each_below p n

abbrev pub some_below : (ℕ → Bool) → ℕ → Bool
some_below p zero = false
some_below p (suc n) = p n || some_below p n

pub each_at : (p : ℕ → Bool) (n : ℕ) → each_below p n ≡ true → (k : ℕ) → k < n → p k ≡ true
each_at p n e = (Decides-below_and p (λ k. p k ≡ true) (each_below p) (λ k. (λ x. x, λ x. x)) refl (λ _. refl) n).0 e

pub some_at : (p : ℕ → Bool) (n : ℕ) → some_below p n ≡ true → (k : ℕ) × (k < n) × (p k ≡ true)
some_at p n e = (Decides-below_or p (λ k. p k ≡ true) (some_below p) (λ k. (λ x. x, λ x. x)) refl (λ _. refl) n).0 e

pub follows : (x y : Bool) → not x || y ≡ true → x ≡ true → y ≡ true
follows x y e f = grind arith
