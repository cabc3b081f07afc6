-- The count of held items.
use Rattle.std.proofs.Common.{◌≡◌, ◌≢◌, ℕ, zero, suc, ◌<◌, eqb, cond, List, [], ◌∷◌, take, slice_index, refl, arith}
use native.Mathlib.Decide.{ℕ_discrete}
use Rattle.std.proofs.lemmas.List.{get_or_past}
use Rattle.std.proofs.lemmas.List.Sums.{sum_by-cons}
use Rattle.std.proofs.lemmas.Bool.Decides.{nat_tests}
use Rattle.numbering.specs.Numbers.{held_number}
use Rattle.numbering.specs.Outcomes.{count_held}

abbrev one : ℕ → ℕ
one word = cond (eqb word held_number) 1 0

one_held : (x : ℕ) → one x ≡ 0 → x ≢ held_number
one_held x e h = grind (arith, nat_tests)

held_one : (x : ℕ) → x ≢ held_number → one x ≡ 0
held_one x ne = grind (arith, nat_tests)

-- where none is counted, none of the first words is the number that held items get
pub none_held : (xs : List ℕ) (k : ℕ) → count_held k xs ≡ 0 → (i : ℕ) → i < k → slice_index xs i ≢ held_number
none_held [] k e i l h = let none : List ℕ = [] in let p = get_or_past none i 0 (omega arith) in omega arith
none_held (x ∷ xs) zero e i l h = omega arith
none_held (x ∷ xs) (suc k) e zero l h = one_held x (omega (arith, sum_by-cons one x (take k xs))) h
none_held (x ∷ xs) (suc k) e (suc i) l h = none_held xs k (omega (arith, sum_by-cons one x (take k xs))) i (omega arith) h

-- and where none of them is, none is counted
pub held_none : (xs : List ℕ) (k : ℕ) → ((i : ℕ) → i < k → slice_index xs i ≢ held_number) → count_held k xs ≡ 0
held_none [] zero f = refl
held_none [] (suc k) f = refl
held_none (x ∷ xs) zero f = refl
held_none (x ∷ xs) (suc k) f =
    let here = held_one x (f 0 (omega arith)) in
    let rest = held_none xs k (λ i l. f (suc i) (omega arith)) in
    omega (arith, sum_by-cons one x (take k xs))

-- otherwise some is
pub some_held : (xs : List ℕ) (k : ℕ) → count_held k xs ≢ 0 → (i : ℕ) × (i < k) × (slice_index xs i ≡ held_number)
some_held [] zero ne = absurd (ne refl)
some_held [] (suc k) ne = absurd (ne refl)
some_held (x ∷ xs) zero ne = absurd (ne refl)
some_held (x ∷ xs) (suc k) ne = elim (ℕ_discrete x held_number) [
  | yes e ↦ (0, omega arith, e)
  | no other ↦
      let here = held_one x other in
      let r = some_held xs k (λ e. ne (omega (arith, here, e, sum_by-cons one x (take k xs)))) in
      (suc r.0, omega (arith, r.1), r.2)
]
