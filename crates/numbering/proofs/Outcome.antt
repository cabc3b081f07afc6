-- What numbering the items of a system comes to.
use Rattle.std.proofs.Common.{◌≡◌, ℕ, suc, ◌-◌, ◌<◌, ◌≤◌, ◌⊎◌, List, length, slice_index, inl, inr, sym, refl, ap, ◌∙◌, arith, subst, ◌++◌, take, drop, count_by, nat_eq, nat_lt, not, true}
use native.Mathlib.Decide.{dec_lt}
use Rattle.std.proofs.lemmas.Bool.{both_ways, and_from, and_parts, lt-ltb, ltb-true, eq-eqb, eqb-true, ne_eqb, not-true, not_from_false}
use Rattle.std.proofs.lemmas.List.{get_or_past, get_or_append_left, get_or-append_right, get_or-drop, take-append-le, length-take-le}
use Rattle.std.proofs.lemmas.List.Sums.{count_by-le-length}
use Rattle.numbering.specs.Systems.{System, Conditions, Way}
use Rattle.numbering.specs.Numbers.{Sound, HeldSet, Held, Smallest, Equation, none, greatest, Numbered, AllNumbered, Below, held_number}
use Rattle.numbering.specs.Rounds.{Open, Listing}
use Rattle.numbering.specs.Outcomes.{Outcome, Greatest, count_held, numbered_items, held_items}
use Rattle.numbering.specs.declared.Numbering.{Numbering}
use Rattle.numbering.specs.Deciding.{Decided}
use Rattle.numbering.proofs.Deciding.{way_inside, below_items, all_numbered, left_held, least, one_numbering}

-- before the first round every item is open
pub listing_start : (s : System) (f : ℕ → ℕ) (list : List ℕ) → ((i : ℕ) → i < s.items → f i ≡ held_number) → ((i : ℕ) → i < s.items → slice_index list i ≡ i) → Listing s f list 0 s.items
listing_start s f list held own = record {
  all_open = λ j h. let e = own j h in subst (Open s f 0) (sym e) (opened j h);
  rising = λ j k h l. omega (arith, own j (omega arith), own k l);
  cover = λ i h. inr (i, omega arith, h, own i h);
  last = inl refl;
}
  where
    opened : (i : ℕ) → i < s.items → Open s f 0 i
    opened i h = let e = held i h in record { inside = h; few = omega (arith, e); word = omega (arith, e); passed = λ j l. absurd (omega (arith, e)); last = inl refl }

-- the numbers of the items that are not held are sound
is_numbered : (s : System) (g : ℕ → ℕ) (i : ℕ) → i < s.items → (g i ≡ held_number → ⊥) → numbered_items s g i ≡ true
is_numbered s g i l ne = and_from (nat_lt i s.items) (not (nat_eq (g i) held_number)) (lt-ltb i s.items l) (not_from_false (nat_eq (g i) held_number) (ne_eqb (g i) held_number ne))

item_inside : (s : System) (g : ℕ → ℕ) (i : ℕ) → numbered_items s g i ≡ true → i < s.items
item_inside s g i e = ltb-true i s.items (and_parts (nat_lt i s.items) (not (nat_eq (g i) held_number)) e).0

item_numbered : (s : System) (g : ℕ → ℕ) (i : ℕ) → numbered_items s g i ≡ true → g i ≡ held_number → ⊥
item_numbered s g i e q = both_ways (nat_eq (g i) held_number) (not-true (nat_eq (g i) held_number) (and_parts (nat_lt i s.items) (not (nat_eq (g i) held_number)) e).1) (eq-eqb (g i) held_number q)

sound : (s : System) → Conditions s → (g : ℕ → ℕ) (r : ℕ) → Decided s g r → Sound s (numbered_items s g) g
sound s ok g r d i j e n = go (dec_lt (g i) r)
  where
    l : i < s.items
    l = item_inside s g i e

    go : Dec (g i < r) → (h : ℕ) × Way s i j h × (numbered_items s g h ≡ true) × (g h < g i)
    go (no h) = absurd (item_numbered s g i e (d.held i l (omega (arith, h))).0)
    go (yes h) =
        let w = d.each i l h j n in
        (w.0, w.1, is_numbered s g w.0 (way_inside s ok i j w.0 w.1) (λ q. omega (arith, q, w.2, h, d.few, ok.few_items)), w.2)

greatest_of : (s : System) → Conditions s → (g : ℕ → ℕ) (r : ℕ) → Decided s g r → Greatest s g (r - 1)
greatest_of s ok g r d = record { none_above = none_above; given = given d.given }
  where
    none_above : (i : ℕ) → i < s.items → (g i ≡ held_number → ⊥) → g i ≤ r - 1
    none_above i l ne = go (dec_lt (g i) r)
      where
        go : Dec (g i < r) → g i ≤ r - 1
        go (yes h) = omega (arith, h)
        go (no h) = absurd (ne (d.held i l (omega (arith, h))).0)

    given : (r ≡ 0) ⊎ ((i : ℕ) × (i < s.items) × (suc (g i) ≡ r)) → (r - 1 ≡ 0) ⊎ ((i : ℕ) × (i < s.items) × (g i ≡ held_number → ⊥) × (g i ≡ r - 1))
    given (inl z) = inl (omega (arith, z))
    given (inr (i, l, e)) = inr (i, l, (λ q. omega (arith, q, e, d.few, ok.few_items)), omega (arith, e))

-- each item that lies in no held set is numbered
whole : (s : System) → Conditions s → (g : ℕ → ℕ) → Below s g → (i : ℕ) → i < s.items → (Held s i → ⊥) → numbered_items s g i ≡ true
whole s ok g below i l free = is_numbered s g i l (λ q. let z = below i l free in omega (arith, z, q, ok.few_items))

-- the greatest number is below the count of items, since it is 0 or that of an item which lies in no held set
greatest_below : (s : System) → Conditions s → (g : ℕ → ℕ) (m : ℕ) → AllNumbered s g → Below s g → Greatest s g m → m < s.items
greatest_below s ok g m all below x = go x.given
  where
    go : (m ≡ 0) ⊎ ((i : ℕ) × (i < s.items) × (g i ≡ held_number → ⊥) × (g i ≡ m)) → m < s.items
    go (inl z) = omega (arith, z, ok.some_item)
    go (inr (i, l, ne, e)) = at (all i l)
      where
        at : Numbered s g i → m < s.items
        at (inl y) = let z = below i l y.0 in omega (arith, z, e)
        at (inr y) = absurd (ne y.1)

held_few : (k : ℕ) (xs : List ℕ) → length xs ≡ k → count_held k xs ≤ k
held_few k xs e = omega (arith, e, length-take-le k xs (omega (arith, e)), count_by-le-length (λ word. nat_eq word held_number) (take k xs))

pub outcome : (s : System) → Conditions s → (before after : List ℕ) (bound held : ℕ) → length before ≡ s.items → length after ≡ s.items → Decided s (slice_index after) bound → held ≡ count_held s.items after → Outcome s before after (record { greatest = bound - 1; held = held })
outcome s ok before after bound held lb la d e =
    let all = all_numbered s ok (slice_index after) bound d in
    let below = below_items s ok (slice_index after) bound d in
    let greatest = greatest_of s ok (slice_index after) bound d in
    record {
      all = all;
      only = λ other x. one_numbering s other (slice_index after) ok x all;
      below = below;
      sound = sound s ok (slice_index after) bound d;
      whole = whole s ok (slice_index after) below;
      held_set = left_held s ok (slice_index after) bound d;
      least = least s ok (slice_index after) bound d;
      beyond = λ k h. get_or_past after k 0 (omega (arith, la)) ∙ sym (get_or_past before k 0 (omega (arith, lb)));
      greatest = greatest;
      held = e;
      bounds = (greatest_below s ok (slice_index after) (bound - 1) all below greatest, omega (arith, e, held_few s.items after la), omega (arith, ok.few_items), omega (arith, ok.few_slots));
    }

-- numbers that agree on the items
module _ (s : System) (ok : Conditions s) (f g : ℕ → ℕ) (same : (i : ℕ) → i < s.items → g i ≡ f i) where
  smallest_same : (i j m : ℕ) → Smallest s f i j m → Smallest s g i j m
  smallest_same i j m x = record {
    some = (x.some.0, x.some.1, same x.some.0 (way_inside s ok i j x.some.0 x.some.1) ∙ x.some.2);
    least = λ h w. let z = same h (way_inside s ok i j h w) in let l = x.least h w in omega (arith, z, l);
  }

  equation_same : (i : ℕ) → i < s.items → Equation s f i → Equation s g i
  equation_same i l (none e z) = none e (same i l ∙ z)
  equation_same i l (greatest each (j, m, e, x, z)) =
      greatest (λ k n. let y = each k n in (y.0, smallest_same i k y.0 y.1, omega (arith, y.2, same i l))) (j, m, e, smallest_same i j m x, z ∙ sym (same i l))

  pub all_same : AllNumbered s f → AllNumbered s g
  all_same x i l = go (x i l)
    where
      go : Numbered s f i → Numbered s g i
      go (inl y) = inl (y.0, equation_same i l y.1)
      go (inr y) = inr (y.0, same i l ∙ y.1)

  sound_same : Sound s (numbered_items s f) f → Sound s (numbered_items s g) g
  sound_same x i j e n =
      let l = item_inside s g i e in
      let w = x i j (is_numbered s f i l (λ q. item_numbered s g i e (same i l ∙ q))) n in
      let m = way_inside s ok i j w.0 w.1 in
      (w.0, w.1, is_numbered s g w.0 m (λ q. item_numbered s f w.0 w.2 (sym (same w.0 m) ∙ q)), omega (arith, w.3, same i l, same w.0 m))

  is_held : (h : ℕ → ℕ) (i : ℕ) → i < s.items → h i ≡ held_number → held_items s h i ≡ true
  is_held h i l e = and_from (nat_lt i s.items) (nat_eq (h i) held_number) (lt-ltb i s.items l) (eq-eqb (h i) held_number e)

  held_same : HeldSet s (held_items s f) → HeldSet s (held_items s g)
  held_same x i e =
      let p = and_parts (nat_lt i s.items) (nat_eq (g i) held_number) e in
      let l = ltb-true i s.items p.0 in
      let w = x i (is_held f i l (sym (same i l) ∙ eqb-true (g i) held_number p.1)) in (
        w.0,
        w.1,
        λ h y.
            let m = way_inside s ok i w.0 h y in
            is_held g h m (same h m ∙ eqb-true (f h) held_number (and_parts (nat_lt h s.items) (nat_eq (f h) held_number) (w.2 h y)).1),
      )

  greatest_same : (m : ℕ) → Greatest s f m → Greatest s g m
  greatest_same m x = record { none_above = λ i l ne. let z = x.none_above i l (λ e. ne (same i l ∙ e)) in omega (arith, z, same i l); given = given x.given }
    where
      given : (m ≡ 0) ⊎ ((i : ℕ) × (i < s.items) × (f i ≡ held_number → ⊥) × (f i ≡ m)) → (m ≡ 0) ⊎ ((i : ℕ) × (i < s.items) × (g i ≡ held_number → ⊥) × (g i ≡ m))
      given (inl z) = inl z
      given (inr (i, l, ne, e)) = inr (i, l, (λ q. ne (sym (same i l) ∙ q)), same i l ∙ e)

-- the items' words as the first of a longer buffer
pub outcome_whole : (s : System) → Conditions s → (before part : List ℕ) (a : Numbering) → length part ≡ s.items → Outcome s (take s.items before) part a → Outcome s before (part ++ drop s.items before) a
outcome_whole s ok before part a len x =
    let after = part ++ drop s.items before in
    let same : (i : ℕ) → i < s.items → slice_index after i ≡ slice_index part i = λ i l. get_or_append_left part (drop s.items before) 0 i (omega (arith, len)) in
    let first : take s.items after ≡ take s.items part = take-append-le s.items part (drop s.items before) (omega (arith, len)) in
    record {
      all = all_same s ok (slice_index part) (slice_index after) same x.all;
      only = λ other y i l. x.only other y i l ∙ sym (same i l);
      below = λ i l free. let y = x.below i l free in omega (arith, y, same i l);
      sound = sound_same s ok (slice_index part) (slice_index after) same x.sound;
      whole = λ i l free. is_numbered s (slice_index after) i l (λ q. item_numbered s (slice_index part) i (x.whole i l free) (sym (same i l) ∙ q));
      held_set = held_same s ok (slice_index part) (slice_index after) same x.held_set;
      least = λ set other inside sound i e. let y = x.least set other inside sound i e in (y.0, omega (arith, y.1, same i (inside i e)));
      beyond = λ k l. get_or-append_right part (drop s.items before) s.items k 0 len l ∙ get_or-drop s.items before (k - s.items) 0 ∙ ap (slice_index before) (omega (arith, l));
      greatest = greatest_same s ok (slice_index part) (slice_index after) same a.greatest x.greatest;
      held = x.held ∙ ap (λ w. count_by (λ word. nat_eq word held_number) w) (sym first);
      bounds = x.bounds;
    }
