-- What follows from numbers that are decided, and that those of the rounds are.
use Rattle.std.proofs.Common.{◌≡◌, ℕ, zero, suc, ◌<◌, ◌≤◌, ◌⊎◌, true, false, Bool, List, length, slice_index, inl, inr, refl, ap, ◌∙◌, arith, nat_eq, nat_lt}
use native.Mathlib.Decide.{ℕ_discrete, dec_lt}
use Rattle.std.proofs.lemmas.Bool.{both_ways, and_from, and_parts, lt-ltb, ltb-true, eq-eqb, eqb-true, false_from_ne_true}
use Rattle.numbering.specs.Systems.{System, Conditions, Way, most_items}
use Rattle.numbering.specs.Numbers.{Sound, HeldSet, Held, Smallest, Equation, none, greatest, Numbered, AllNumbered, held_number}
use Rattle.numbering.specs.Rounds.{Met, Done, Open, Finished}
use Rattle.numbering.specs.Deciding.{Decided}
use Rattle.numbering.specs.Outcomes.{held_items}

-- one of the first n numbers of a list that is the least of them
least_of : (f : ℕ → ℕ) (xs : List ℕ) (n : ℕ) → 0 < n → (k : ℕ) × (k < n) × ((l : ℕ) → l < n → f (slice_index xs k) ≤ f (slice_index xs l))
least_of f xs zero h = absurd (omega arith)
least_of f xs (suc zero) h = (0, omega arith, λ l m. let z : l ≡ 0 = omega arith in rw z (omega arith))
least_of f xs (suc (suc n)) h = go (least_of f xs (suc n) (omega arith))
  where
    go : (k : ℕ) × (k < suc n) × ((l : ℕ) → l < suc n → f (slice_index xs k) ≤ f (slice_index xs l)) → (k : ℕ) × (k < suc (suc n)) × ((l : ℕ) → l < suc (suc n) → f (slice_index xs k) ≤ f (slice_index xs l))
    go (k, m, least) = at (dec_lt (f (slice_index xs (suc n))) (f (slice_index xs k)))
      where
        at : Dec (f (slice_index xs (suc n)) < f (slice_index xs k)) → (k : ℕ) × (k < suc (suc n)) × ((l : ℕ) → l < suc (suc n) → f (slice_index xs k) ≤ f (slice_index xs l))
        at (yes lt) = (suc n, omega arith, λ l p. last l p (ℕ_discrete l (suc n)))
          where
            last : (l : ℕ) → l < suc (suc n) → Dec (l ≡ suc n) → f (slice_index xs (suc n)) ≤ f (slice_index xs l)
            last l p (yes q) = rw q (omega arith)
            last l p (no ne) = let z = least l (omega (arith, ne)) in omega (arith, lt, z)
        at (no ge) = (k, omega arith, λ l p. last l p (ℕ_discrete l (suc n)))
          where
            last : (l : ℕ) → l < suc (suc n) → Dec (l ≡ suc n) → f (slice_index xs k) ≤ f (slice_index xs l)
            last l p (yes q) = rw q (omega (arith, ge))
            last l p (no ne) = least l (omega (arith, ne))

smallest : (s : System) (f : ℕ → ℕ) (i j h : ℕ) → Way s i j h → (m : ℕ) × Smallest s f i j m
smallest s f i j h w =
    let x = least_of f (s.ways i j) (length (s.ways i j)) (omega (arith, w.1)) in
    let k = slice_index (s.ways i j) x.0 in
    (f k, record { some = (k, (x.0, x.1, refl), refl); least = λ e y. rw y.2 (x.2 y.0 y.1) })

-- a number of one numbering is not above that of another, if that holds of the items to which the other gives smaller numbers
not_above_here : (s : System) (a b : ℕ → ℕ) → Conditions s → (i : ℕ) → ((h : ℕ) → b h < b i → h < s.items → a h ≤ b h) → Numbered s a i → Numbered s b i → a i ≤ b i
not_above_here s a b ok i below (inr p) (inr q) = omega (arith, p.1, q.1)
not_above_here s a b ok i below (inr p) (inl q) = absurd (q.0 p.0)
not_above_here s a b ok i below (inl p) (inr q) = absurd (p.0 q.0)
not_above_here s a b ok i below (inl p) (inl q) = go p.1 q.1
  where
    go : Equation s a i → Equation s b i → a i ≤ b i
    go (none e z) q = omega (arith, z)
    go (greatest each (j, m, e, least, z)) (none f w) = absurd (both_ways (s.need i j) (f j) e)
    go (greatest each (j, m, e, least, z)) (greatest other some) =
        let o = other j e in
        let w = o.1.some in
        let inside : w.0 < s.items = rw w.1.2 (ok.ways_inside i j w.1.0 w.1.1) in
        let le = below w.0 (omega (arith, w.2, o.2)) inside in
        let l = least.least w.0 w.1 in
        omega (arith, z, le, l, w.2, o.2)

not_above : (s : System) (a b : ℕ → ℕ) → Conditions s → AllNumbered s a → AllNumbered s b → (bound i : ℕ) → b i < bound → i < s.items → a i ≤ b i
not_above s a b ok x y zero i h l = absurd (omega arith)
not_above s a b ok x y (suc bound) i h l = not_above_here s a b ok i (λ k m n. not_above s a b ok x y bound k (omega (arith, m, h)) n) (x i l) (y i l)

-- there is one numbering
pub one_numbering : (s : System) (a b : ℕ → ℕ) → Conditions s → AllNumbered s a → AllNumbered s b → (i : ℕ) → i < s.items → a i ≡ b i
one_numbering s a b ok x y i h =
    let p = not_above s a b ok x y (suc (b i)) i (omega arith) h in
    let q = not_above s b a ok y x (suc (a i)) i (omega arith) h in
    omega (arith, p, q)

pub way_inside : (s : System) → Conditions s → (i j h : ℕ) → Way s i j h → h < s.items
way_inside s ok i j h w = rw w.2 (ok.ways_inside i j w.0 w.1)

module _ (s : System) (ok : Conditions s) (f g : ℕ → ℕ) (r : ℕ) (fin : Finished s f r) (closed : (i : ℕ) → i < s.items → (f i < r → g i ≡ f i) × (r ≤ f i → g i ≡ held_number)) where
  few : r ≤ most_items
  few = omega (arith, fin.few, ok.few_items)

  -- closing lowers no number
  grows : (h : ℕ) → h < s.items → f h ≤ g h
  grows h l = go (fin.good h l)
    where
      go : Done s f r h ⊎ Open s f (suc r) h → f h ≤ g h
      go (inl d) = let z = (closed h l).0 d.early in omega (arith, z)
      go (inr o) = let z = (closed h l).1 (omega (arith, o.few, ok.few_slots, few)) in omega (arith, z, o.word)

  below : (i : ℕ) → i < s.items → g i < r → Done s f r i
  below i l h = go (fin.good i l)
    where
      go : Done s f r i ⊎ Open s f (suc r) i → Done s f r i
      go (inl d) = d
      go (inr o) = let z = (closed i l).1 (omega (arith, o.few, ok.few_slots, few)) in absurd (omega (arith, z, few))

  above : (i : ℕ) → i < s.items → r ≤ g i → Open s f (suc r) i
  above i l h = go (fin.good i l)
    where
      go : Done s f r i ⊎ Open s f (suc r) i → Open s f (suc r) i
      go (inl d) = let z = (closed i l).0 d.early in absurd (omega (arith, z, d.early))
      go (inr o) = o

  pub decided : Decided s g r
  decided = record { few = fin.few; each = each; last = last; held = held; given = given fin.some }
    where
      each : (i : ℕ) → i < s.items → g i < r → (j : ℕ) → Met s g i (g i) j
      each i l h j e =
          let d = below i l h in
          let w = d.each j e in
          let inside = way_inside s ok i j w.0 w.1 in
          let y = (closed i l).0 d.early in
          let z = (closed w.0 inside).0 (omega (arith, w.2, d.early)) in
          (w.0, w.1, omega (arith, w.2, y, z))

      last : (i : ℕ) → i < s.items → g i < r → (g i ≡ 0) ⊎ ((j : ℕ) × (s.need i j ≡ true) × ((h : ℕ) → Way s i j h → g i ≤ suc (g h)))
      last i l h = go d.last
        where
          d : Done s f r i
          d = below i l h

          go : (f i ≡ 0) ⊎ ((j : ℕ) × (s.need i j ≡ true) × ((h : ℕ) → Way s i j h → f i ≤ suc (f h))) → (g i ≡ 0) ⊎ ((j : ℕ) × (s.need i j ≡ true) × ((h : ℕ) → Way s i j h → g i ≤ suc (g h)))
          go (inl z) = inl ((closed i l).0 d.early ∙ z)
          go (inr (j, e, w)) = inr (j, e, λ k y. let z = (closed i l).0 d.early in let le = w k y in let up = grows k (way_inside s ok i j k y) in omega (arith, z, le, up))

      held : (i : ℕ) → i < s.items → r ≤ g i → (g i ≡ held_number) × ((j : ℕ) × (s.need i j ≡ true) × ((h : ℕ) → Way s i j h → g h ≡ held_number))
      held i l h = ((closed i l).1 (omega (arith, o.few, ok.few_slots, few)), go o.last)
        where
          o : Open s f (suc r) i
          o = above i l h

          go : (suc r ≡ 0) ⊎ ((j : ℕ) × (s.need i j ≡ true) × ((h : ℕ) → Way s i j h → suc r ≤ suc (f h))) → (j : ℕ) × (s.need i j ≡ true) × ((h : ℕ) → Way s i j h → g h ≡ held_number)
          go (inl z) = absurd (omega (arith, z))
          go (inr (j, e, w)) = (j, e, λ k y. let le = w k y in (closed k (way_inside s ok i j k y)).1 (omega (arith, le)))

      given : (r ≡ 0) ⊎ ((i : ℕ) × (i < s.items) × (suc (f i) ≡ r)) → (r ≡ 0) ⊎ ((i : ℕ) × (i < s.items) × (suc (g i) ≡ r))
      given (inl z) = inl z
      given (inr (i, l, e)) = inr (i, l, ap suc ((closed i l).0 (omega (arith, e))) ∙ e)

module _ (s : System) (ok : Conditions s) (g : ℕ → ℕ) (r : ℕ) (d : Decided s g r) where
  -- the set of the items that were not numbered
  abbrev left : ℕ → Bool
  left = held_items s g

  is_left : (i : ℕ) → i < s.items → g i ≡ held_number → left i ≡ true
  is_left i l e = and_from (nat_lt i s.items) (nat_eq (g i) held_number) (lt-ltb i s.items l) (eq-eqb (g i) held_number e)

  inside_left : (i : ℕ) → left i ≡ true → i < s.items
  inside_left i e = ltb-true i s.items (and_parts (nat_lt i s.items) (nat_eq (g i) held_number) e).0

  number_left : (i : ℕ) → left i ≡ true → g i ≡ held_number
  number_left i e = eqb-true (g i) held_number (and_parts (nat_lt i s.items) (nat_eq (g i) held_number) e).1

  pub left_held : HeldSet s left
  left_held i e =
      let l = inside_left i e in
      let n = number_left i e in
      let h = d.held i l (omega (arith, n, d.few, ok.few_items)) in
      let j = h.1 in
      (j.0, j.1, λ k w. is_left k (way_inside s ok i j.0 k w) (j.2 k w))

  held_in : (i : ℕ) → i < s.items → r ≤ g i → Held s i
  held_in i l h = (left, left_held, is_left i l (d.held i l h).0)

  -- an item with a number below r lies in no held set
  free_of : (set : ℕ → Bool) → HeldSet s set → (bound i : ℕ) → g i < bound → i < s.items → g i < r → set i ≡ true → ⊥
  free_of set z zero i h l n e = omega arith
  free_of set z (suc bound) i h l n e =
      let j = z i e in
      let w = d.each i l n j.0 j.1 in
      free_of set z bound w.0 (omega (arith, h, w.2)) (way_inside s ok i j.0 w.0 w.1) (omega (arith, n, w.2)) (j.2 w.0 w.1)

  not_held : (i : ℕ) → i < s.items → g i < r → Held s i → ⊥
  not_held i l h (set, z, e) = free_of set z (suc (g i)) i (omega arith) l h e

  equation : (i : ℕ) → i < s.items → g i < r → Equation s g i
  equation i l h = go (ℕ_discrete (g i) 0) (d.last i l h)
    where
      no_need : g i ≡ 0 → (j : ℕ) → s.need i j ≡ false
      no_need z j = false_from_ne_true (s.need i j) (λ e. let w = d.each i l h j e in omega (arith, w.2, z))

      each : (j : ℕ) → s.need i j ≡ true → (m : ℕ) × Smallest s g i j m × (suc m ≤ g i)
      each j e =
          let w = d.each i l h j e in
          let x = smallest s g i j w.0 w.1 in
          let le = x.1.least w.0 w.1 in
          (x.0, x.1, omega (arith, le, w.2))

      go : Dec (g i ≡ 0) → (g i ≡ 0) ⊎ ((j : ℕ) × (s.need i j ≡ true) × ((h : ℕ) → Way s i j h → g i ≤ suc (g h))) → Equation s g i
      go (yes z) last = none (no_need z) z
      go (no ne) (inl z) = absurd (ne z)
      go (no ne) (inr (j, e, le)) =
          let x = each j e in
          let w = x.1.some in
          let up = le w.0 w.1 in
          greatest each (j, x.0, e, x.1, omega (arith, x.2, w.2, up))

  pub all_numbered : AllNumbered s g
  all_numbered i l = go (dec_lt (g i) r)
    where
      go : Dec (g i < r) → Numbered s g i
      go (yes h) = inl (not_held i l h, equation i l h)
      go (no h) = inr (held_in i l (omega (arith, h)), (d.held i l (omega (arith, h))).0)

  pub below_items : (i : ℕ) → i < s.items → (Held s i → ⊥) → g i < s.items
  below_items i l free = go (dec_lt (g i) r)
    where
      go : Dec (g i < r) → g i < s.items
      go (yes h) = omega (arith, h, d.few)
      go (no h) = absurd (free (held_in i l (omega (arith, h))))

  sound_here : (set : ℕ → Bool) (other : ℕ → ℕ) → ((i : ℕ) → set i ≡ true → i < s.items) → Sound s set other → (i : ℕ) → set i ≡ true → ((k : ℕ) → other k < other i → set k ≡ true → (g k < r) × (g k ≤ other k)) → (g i < r) × (g i ≤ other i)
  sound_here set other inside sound i e below = go (dec_lt (g i) r)
    where
      l : i < s.items
      l = inside i e

      go : Dec (g i < r) → (g i < r) × (g i ≤ other i)
      go (no h) =
          let x = (d.held i l (omega (arith, h))).1 in
          let w = sound i x.0 e x.1 in
          let b = below w.0 w.3 w.2 in
          let z = x.2 w.0 w.1 in
          absurd (omega (arith, b.0, z, d.few, ok.few_items))
      go (yes h) = (h, up (d.last i l h))
        where
          up : (g i ≡ 0) ⊎ ((j : ℕ) × (s.need i j ≡ true) × ((h : ℕ) → Way s i j h → g i ≤ suc (g h))) → g i ≤ other i
          up (inl z) = omega (arith, z)
          up (inr (j, n, le)) =
              let w = sound i j e n in
              let b = below w.0 w.3 w.2 in
              let u = le w.0 w.1 in
              omega (arith, b.1, u, w.3)

  -- a sound numbering of any set of items numbers none that is held, and none with a smaller number
  sound_above : (set : ℕ → Bool) (other : ℕ → ℕ) → ((i : ℕ) → set i ≡ true → i < s.items) → Sound s set other → (bound i : ℕ) → other i < bound → set i ≡ true → (g i < r) × (g i ≤ other i)
  sound_above set other inside sound zero i h e = absurd (omega arith)
  sound_above set other inside sound (suc bound) i h e =
      sound_here set other inside sound i e (λ k m n. sound_above set other inside sound bound k (omega (arith, m, h)) n)

  pub least : (set : ℕ → Bool) (other : ℕ → ℕ) → ((i : ℕ) → set i ≡ true → i < s.items) → Sound s set other → (i : ℕ) → set i ≡ true → (Held s i → ⊥) × (g i ≤ other i)
  least set other inside sound i e =
      let x = sound_above set other inside sound (suc (other i)) i (omega arith) e in
      (not_held i (inside i e) x.0, x.1)
