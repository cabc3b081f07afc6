-- Whether numbers are those that are defined, for any release system.
use Rattle.std.proofs.Common.{◌≡◌, ℕ, suc, ◌-◌, ◌<◌, ◌≤◌, ◌⊎◌, inl, inr, Bool, true, false, not, ◌&&◌, ◌||◌, eqb, ltb, leb, cond, max, List, [], ◌∷◌, length, slice_index, refl, sym, subst, arith}
use Rattle.std.specs.List.{fold, list_all, list_any}
use Rattle.std.proofs.lemmas.Bool.{and_parts, or_cases, both_ways, eqb-true, ltb-true, leb-true}
use Rattle.std.proofs.lemmas.List.Sums.{AllPass-from_list_all}
use Rattle.numbering.specs.Systems.{System, Conditions, Way}
use Rattle.numbering.specs.Numbers.{held_number}
use Rattle.numbering.specs.Outcomes.{Outcome, count_held}
use Rattle.numbering.specs.Rounds.{Met, Done, Open, Finished}
use Rattle.numbering.specs.declared.Numbering.{Numbering}
use Rattle.numbering.proofs.Deciding.{decided}
use Rattle.numbering.proofs.Outcome.{outcome}
use Rattle.cases.proofs.Ranges.{each_below, some_below, each_at, some_at, follows}

-- each need of the item has a way with a smaller number
abbrev met : System → (ℕ → ℕ) → ℕ → ℕ → Bool
met s g i j = not (s.need i j) || list_any (λ h. ltb (g h) (g i)) (s.ways i j)

-- the slot holds a need whose ways all have numbers that reach r with one more
abbrev late : System → (ℕ → ℕ) → ℕ → ℕ → ℕ → Bool
late s g r i j = s.need i j && list_all (λ h. leb r (suc (g h))) (s.ways i j)

abbrev item_fits : System → (ℕ → ℕ) → ℕ → ℕ → Bool
item_fits s g r i =
    cond (ltb (g i) r) (each_below (met s g i) s.slots && (eqb (g i) 0 || some_below (late s g (g i) i) s.slots))
    (eqb (g i) held_number && some_below (late s g (suc r) i) s.slots)

-- one more than the greatest number that is not that of held items, or 0 where there is none
abbrev rounds : List ℕ → ℕ
rounds = fold (λ r word. cond (eqb word held_number) r (max r (suc word))) 0

-- the greatest number
abbrev pub greatest_of : List ℕ → ℕ
greatest_of numbers = rounds numbers - 1

abbrev given : System → (ℕ → ℕ) → ℕ → Bool
given s g r = eqb r 0 || some_below (λ i. eqb (suc (g i)) r) s.items

abbrev rounds_fit : System → List ℕ → ℕ → Bool
rounds_fit s numbers r = leb r s.items && (given s (slice_index numbers) r && each_below (item_fits s (slice_index numbers) r) s.items)

abbrev counts_fit : System → List ℕ → Numbering → Bool
counts_fit s numbers a = eqb (length numbers) s.items && (eqb a.greatest (greatest_of numbers) && eqb a.held (count_held s.items numbers))

abbrev pub numbers_fit : System → List ℕ → Numbering → Bool
numbers_fit s numbers a = counts_fit s numbers a && rounds_fit s numbers (rounds numbers)

-- one of a list that passes a test
some_in : (p : ℕ → Bool) (ws : List ℕ) → list_any p ws ≡ true → (k : ℕ) × (k < length ws) × (p (slice_index ws k) ≡ true)
some_in p [] e = absurd (both_ways false refl e)
some_in p (w ∷ ws) e = go (or_cases (p w) (list_any p ws) e) (some_in p ws)
  where
    go : (p w ≡ true) ⊎ (list_any p ws ≡ true) → (list_any p ws ≡ true → (k : ℕ) × (k < length ws) × (p (slice_index ws k) ≡ true)) → (k : ℕ) × (k < length (w ∷ ws)) × (p (slice_index (w ∷ ws) k) ≡ true)
    go (inl x) again = (0, omega arith, x)
    go (inr x) again = let y = again x in (suc y.0, omega (arith, y.1), y.2)

module _ (s : System) (ok : Conditions s) (g : ℕ → ℕ) (r : ℕ) where
  met_at : (i j : ℕ) → met s g i j ≡ true → Met s g i (g i) j
  met_at i j e need =
      let some = follows (s.need i j) (list_any (λ h. ltb (g h) (g i)) (s.ways i j)) e need in
      let w = some_in (λ h. ltb (g h) (g i)) (s.ways i j) some in
      (slice_index (s.ways i j) w.0, (w.0, w.1, refl), ltb-true _ _ w.2)

  each_met : (i : ℕ) → each_below (met s g i) s.slots ≡ true → (j : ℕ) → Met s g i (g i) j
  each_met i e j need = met_at i j (each_at (met s g i) s.slots e j (ok.need_inside i j need).1) need

  some_late : (q i : ℕ) → some_below (late s g q i) s.slots ≡ true → (j : ℕ) × (s.need i j ≡ true) × ((h : ℕ) → Way s i j h → q ≤ suc (g h))
  some_late q i e =
      let j = some_at (late s g q i) s.slots e in
      let x = and_parts (s.need i j.0) (list_all (λ h. leb q (suc (g h))) (s.ways i j.0)) j.2 in
      (j.0, x.0, λ h w. rw w.2 (leb-true _ _ (AllPass-from_list_all (λ h. leb q (suc (g h))) (s.ways i j.0) x.1 w.0 0 w.1)))

  good : (i : ℕ) → i < s.items → item_fits s g r i ≡ true → (Done s g r i ⊎ Open s g (suc r) i) × (r ≤ g i → g i ≡ held_number)
  good i l e = go (ltb (g i) r) refl e
    where
      last : (eqb (g i) 0 ≡ true) ⊎ (some_below (late s g (g i) i) s.slots ≡ true) → (g i ≡ 0) ⊎ ((j : ℕ) × (s.need i j ≡ true) × ((h : ℕ) → Way s i j h → g i ≤ suc (g h)))
      last (inl x) = inl (eqb-true _ _ x)
      last (inr x) = inr (some_late (g i) i x)

      go : (b : Bool) → ltb (g i) r ≡ b → cond b (each_below (met s g i) s.slots && (eqb (g i) 0 || some_below (late s g (g i) i) s.slots)) (eqb (g i) held_number && some_below (late s g (suc r) i) s.slots) ≡ true → (Done s g r i ⊎ Open s g (suc r) i) × (r ≤ g i → g i ≡ held_number)
      go true t f =
          let x = and_parts (each_below (met s g i) s.slots) (eqb (g i) 0 || some_below (late s g (g i) i) s.slots) f in
          let small = ltb-true (g i) r t in
          (inl (record { early = small; each = each_met i x.0; last = last (or_cases _ _ x.1) }), λ le. absurd (omega (arith, le, small)))
      go false t f =
          let x = and_parts (eqb (g i) held_number) (some_below (late s g (suc r) i) s.slots) f in
          let held = eqb-true (g i) held_number x.0 in
          let y = some_late (suc r) i x.1 in
          (inr (record { inside = l; few = omega (arith, held); word = omega (arith, held); passed = λ j m. absurd (omega (arith, held, m)); last = inr y }), λ _. held)

pub numbered : (s : System) → Conditions s → (numbers : List ℕ) (a : Numbering) → numbers_fit s numbers a ≡ true → (before : List ℕ) → length before ≡ s.items → Outcome s before numbers a
numbered s ok numbers a e before len =
    subst (λ (k : ℕ). Outcome s before numbers (record { greatest = k; held = a.held })) (sym (eqb-true _ _ counts.1.0))
    (outcome s ok before numbers r a.held len (eqb-true _ _ counts.0) (decided s ok g g r finished (λ i l. (λ _. refl, (each i l).1))) (eqb-true _ _ counts.1.1))
  where
    g : ℕ → ℕ
    g = slice_index numbers

    r : ℕ
    r = rounds numbers

    parts : (counts_fit s numbers a ≡ true) × (rounds_fit s numbers (rounds numbers) ≡ true)
    parts = and_parts (counts_fit s numbers a) (rounds_fit s numbers (rounds numbers)) e

    counts : (eqb (length numbers) s.items ≡ true) × ((eqb a.greatest (greatest_of numbers) ≡ true) × (eqb a.held (count_held s.items numbers) ≡ true))
    counts =
        let x = and_parts (eqb (length numbers) s.items) (eqb a.greatest (greatest_of numbers) && eqb a.held (count_held s.items numbers)) parts.0 in
        (x.0, and_parts _ _ x.1)

    fit : (leb (rounds numbers) s.items ≡ true) × ((given s (slice_index numbers) (rounds numbers) ≡ true) × (each_below (item_fits s (slice_index numbers) (rounds numbers)) s.items ≡ true))
    fit = let x = and_parts (leb (rounds numbers) s.items) _ parts.1 in (x.0, and_parts _ _ x.1)

    each : (i : ℕ) → i < s.items → (Done s (slice_index numbers) (rounds numbers) i ⊎ Open s (slice_index numbers) (suc (rounds numbers)) i) × (rounds numbers ≤ slice_index numbers i → slice_index numbers i ≡ held_number)
    each i l = good s ok (slice_index numbers) (rounds numbers) i l (each_at (item_fits s (slice_index numbers) (rounds numbers)) s.items fit.1.1 i l)

    some : (eqb (rounds numbers) 0 ≡ true) ⊎ (some_below (λ i. eqb (suc (slice_index numbers i)) (rounds numbers)) s.items ≡ true) → (rounds numbers ≡ 0) ⊎ ((i : ℕ) × (i < s.items) × (suc (slice_index numbers i) ≡ rounds numbers))
    some (inl x) = inl (eqb-true _ _ x)
    some (inr x) = let y = some_at _ s.items x in inr (y.0, y.1, eqb-true _ _ y.2)

    finished : Finished s (slice_index numbers) (rounds numbers)
    finished = record { good = λ i l. (each i l).0; few = leb-true _ _ fit.0; some = some (or_cases _ _ fit.1.0) }

pub numbers_long : (s : System) (numbers : List ℕ) (a : Numbering) → numbers_fit s numbers a ≡ true → length numbers ≡ s.items
numbers_long s numbers a e =
    let x = and_parts (counts_fit s numbers a) (rounds_fit s numbers (rounds numbers)) e in
    eqb-true _ _ (and_parts (eqb (length numbers) s.items) (eqb a.greatest (greatest_of numbers) && eqb a.held (count_held s.items numbers)) x.0).0
