-- What the search for a pair that offends against a numbering's soundness finds.
use Rattle.std.proofs.Common.{◌≡◌, ℕ, ◌<◌, ◌≤◌, ◌↔◌, Bool, true, false, IsTrue, List, length, Option, Some, None, MatchOption, MatchBool, slice_index, refl, ◌∙◌, arith}
use Rattle.std.specs.List.{AllWithin, HoldsAt}
use Rattle.std.proofs.lemmas.Bool.{both_ways}
use Rattle.networks.specs.Allowed.{must_move, said}
use Rattle.networks.specs.Nets.{Net}
use Rattle.networks.specs.Nets as nets
use Rattle.networks.proofs.Inside.{allowed_inside}
use Rattle.tracing.specs.Traces.{Traced}
use Rattle.certificates.proofs.Sides.{needs}
use Rattle.judges.specs.Judgements.{NoSmaller}
use Rattle.judges.specs.Searches.{LowestPlace}

-- a pair that does not have to move does not offend
pub no_need : {n : Net} (ok : nets.Conditions n) {before table : List ℕ} {ones : ℕ} → Traced n before table ones → (number : ℕ → ℕ) (c d : ℕ) (r : Bool) → r ≡ must_move n (said table) c d → r ≡ false → IsTrue r ↔ NoSmaller n number c d
no_need ok t number c d r e f = (λ holds. absurd (both_ways r f holds), λ x. e ∙ (needs ok t c d).1 (x.allowed, x.away))

-- one that has to offends by its ways alone
pub by_ways : {n : Net} (ok : nets.Conditions n) {before table : List ℕ} {ones : ℕ} → Traced n before table ones → (number : ℕ → ℕ) (c d own : ℕ) → own ≡ number c → must_move n (said table) c d ≡ true → (r : Bool) → MatchBool r (AllWithin (λ h. own ≤ number h) (n.ways c d) 0 (length (n.ways c d))) ((k : ℕ) × (k < length (n.ways c d)) × HoldsAt (λ h. number h < own) (n.ways c d) k) → IsTrue r ↔ NoSmaller n number c d
by_ways {n} ok t number c d own e need true above =
    let moves = (needs ok t c d).0 need in
    (λ _. record { allowed = moves.0; away = moves.1; none = λ h w. rw (← e) (rw w.2 (above w.0 0 (omega arith) w.1)) }, λ _. refl)
by_ways {n} ok t number c d own e need false x = (λ holds. absurd (cc), λ offends. absurd (below offends))
  where
    below : NoSmaller n number c d → ⊥
    below offends =
        let above = offends.none (slice_index (n.ways c d) x.0) (x.0, x.1, refl) in
        let smaller = x.2 0 in
        omega (arith, above, smaller, e)

-- The search over the places finds the lowest that offends, for all such places are among them.
pub lowest_found : {n : Net} (ok : nets.Conditions n) (number : ℕ → ℕ) (c places : ℕ) → places ≡ n.places → (r : Option ℕ) → MatchOption r ((k : ℕ) → 0 ≤ k → k < places → NoSmaller n number c k → ⊥) (λ i. (0 ≤ i) × (i < places) × NoSmaller n number c i × ((k : ℕ) → 0 ≤ k → k < i → NoSmaller n number c k → ⊥)) → MatchOption r ((d : ℕ) → NoSmaller n number c d → ⊥) (LowestPlace (NoSmaller n number) c)
lowest_found {n} ok number c places e None none = λ d x. none d (omega arith) (omega (arith, (allowed_inside n ok x.allowed).place)) x
lowest_found ok number c places e (Some i) f = record { offends = f.2; below = λ k l. f.3 k (omega arith) l }

-- no channel past the last has a pair that offends
pub none_past : {n : Net} (ok : nets.Conditions n) (number : ℕ → ℕ) (channels : ℕ) → n.channels ≤ channels → ((c d : ℕ) → c < channels → NoSmaller n number c d → ⊥) → (c d : ℕ) → NoSmaller n number c d → ⊥
none_past {n} ok number channels l none c d x = none c d (omega (arith, (allowed_inside n ok x.allowed).channel)) x
