-- The count of the items that no walk came to.
use Rattle.std.proofs.Common.{◌≡◌, ◌≢◌, ℕ, suc, ◌+◌, ◌<◌, ◌≤◌, ◌⊎◌, eqb, cond, List, [], ◌∷◌, length, slice_index, slice_set, inl, inr, arith}
use native.Mathlib.Decide.{ℕ_discrete}
use Rattle.std.proofs.lemmas.List.Sums.{sum_by-cons, sum_by-set}
use Rattle.std.proofs.lemmas.Bool.Decides.{nat_tests}
use Rattle.numbering.specs.Numbers.{held_number}
use Rattle.numbering.specs.Rounds.{Listed}
use Rattle.numbering.specs.Walks.{fresh, count_fresh, AllHeld}

abbrev one : ℕ → ℕ
one word = cond (eqb word fresh) 1 0

one_fresh : (x : ℕ) → x ≡ fresh → one x ≡ 1
one_fresh x e = grind (arith, nat_tests)

none_fresh : (x : ℕ) → x ≢ fresh → one x ≡ 0
none_fresh x ne = grind (arith, nat_tests)

-- another word for an item to which a walk came
pub same_fresh : (ns : List ℕ) (x v : ℕ) → x < length ns → slice_index ns x ≢ fresh → v ≢ fresh → count_fresh (slice_set ns x v) ≡ count_fresh ns
same_fresh ns x v l was is = omega (arith, sum_by-set one ns x v 0 l, none_fresh (slice_index ns x) was, none_fresh v is)

-- a walk comes to an item
pub less_fresh : (ns : List ℕ) (x v : ℕ) → x < length ns → slice_index ns x ≡ fresh → v ≢ fresh → count_fresh (slice_set ns x v) + 1 ≡ count_fresh ns
less_fresh ns x v l was is = omega (arith, sum_by-set one ns x v 0 l, one_fresh (slice_index ns x) was, none_fresh v is)

-- words that are new at no item to which no walk came
pub not_more_fresh : (ns ms : List ℕ) → length ms ≡ length ns → ((i : ℕ) → slice_index ms i ≡ fresh → slice_index ns i ≡ fresh) → count_fresh ms ≤ count_fresh ns
not_more_fresh [] [] e f = omega arith
not_more_fresh [] (m ∷ ms) e f = absurd (omega (arith, e))
not_more_fresh (n ∷ ns) [] e f = absurd (omega (arith, e))
not_more_fresh (n ∷ ns) (m ∷ ms) e f =
    let rest = not_more_fresh ns ms (omega (arith, e)) (λ i z. f (suc i) z) in
    omega (arith, rest, here (ℕ_discrete m fresh), sum_by-cons one n ns, sum_by-cons one m ms)
  where
    here : Dec (m ≡ fresh) → one m ≤ one n
    here (yes is) = omega (arith, one_fresh m is, one_fresh n (f 0 is))
    here (no ne) = omega (arith, none_fresh m ne)

pub held_fresh : (ns ms items : List ℕ) (count : ℕ) → length ms ≡ length ns → AllHeld (slice_index ns) (slice_index ms) items count → count_fresh ms ≤ count_fresh ns
held_fresh ns ms items count e h = not_more_fresh ns ms e (λ i z. go i z (h.others i))
  where
    go : (i : ℕ) → slice_index ms i ≡ fresh → (slice_index ms i ≡ slice_index ns i) ⊎ (Listed items 0 count i × (slice_index ms i ≡ held_number)) → slice_index ns i ≡ fresh
    go i z (inl same) = omega (arith, z, same)
    go i z (inr y) = let held = y.1 in absurd (omega (arith, z, held))

-- an item to which no walk came is counted
pub some_fresh : (ns : List ℕ) (x : ℕ) → x < length ns → slice_index ns x ≡ fresh → 1 ≤ count_fresh ns
some_fresh ns x l is = omega (arith, less_fresh ns x 0 l is (λ e. absurd (omega (arith, e))))
