-- Walks along the needs of a release system.
use Rattle.std.proofs.Common.{◌≡◌, ◌≢◌, ℕ, suc, ◌+◌, ◌<◌, ◌≤◌, ◌⊎◌, List, length, slice_index, slice_set, inl, inr, sym, refl, ap, ◌∙◌, arith, subst, length-set}
use Rattle.std.proofs.lemmas.List.{get_or-set_same, get_or-set_other}
use native.Mathlib.Decide.{ℕ_discrete, dec_lt}
use Rattle.numbering.specs.Systems.{System, Conditions}
use Rattle.numbering.specs.Numbers.{held_number}
use Rattle.numbering.specs.Rounds.{Met, Listed}
use Rattle.numbering.specs.Walks.{fresh, forced, Fixed, OnPath, Bounds, Earned, Stuck, OneWay, Walking}

module _ (s : System) (ok : Conditions s) where
  -- Words of settled items stay, and what is new is right.
  module _ (f g : ℕ → ℕ) (keeps : (h : ℕ) → Fixed (f h) → g h ≡ f h) where
    earned_kept : (i n : ℕ) → n ≤ forced → Earned s f i n → Earned s g i n
    earned_kept i n low x = record { low = x.low; each = each; last = last x.last }
      where
        each : (j : ℕ) → Met s g i n j
        each j e = let w = x.each j e in let z = keeps w.0 (λ m. absurd (omega (arith, w.2, m, low))) in (w.0, w.1, omega (arith, w.2, z))

        last : (n ≡ 0) ⊎ ((j : ℕ) × Bounds s f i n j) → (n ≡ 0) ⊎ ((j : ℕ) × Bounds s g i n j)
        last (inl z) = inl z
        last (inr (j, (e, w))) = inr (j, (e, λ h y. let b = w h y in let z = keeps h b.1 in (omega (arith, b.0, z), subst Fixed (sym z) b.1)))

    stuck_kept : (i j : ℕ) → Stuck s f i j → Stuck s g i j
    stuck_kept i j (e, w) = (e, λ h y. keeps h (λ m. w h y) ∙ w h y)

    given_kept : (bound : ℕ) → bound ≤ s.items → (bound ≡ 0) ⊎ ((i : ℕ) × (i < s.items) × (suc (f i) ≡ bound)) → (bound ≡ 0) ⊎ ((i : ℕ) × (i < s.items) × (suc (g i) ≡ bound))
    given_kept bound few (inl z) = inl z
    given_kept bound few (inr (i, l, e)) = inr (i, l, ap suc (keeps i (λ m. absurd (omega (arith, m, e, few, ok.few_items)))) ∙ e)

    module _ (old bound : ℕ) (grows : old ≤ bound) where
      numbered_kept : (i : ℕ) → i < s.items → ((l : i < s.items) → f i < forced → (f i < old) × Earned s f i (f i)) → (g i ≡ f i) ⊎ ((g i < forced → (g i < bound) × Earned s f i (g i)) × (g i ≡ held_number → (j : ℕ) × Stuck s g i j)) → g i < forced → (g i < bound) × Earned s g i (g i)
      numbered_kept i l n (inl e) low = let x = n l (omega (arith, low, e)) in (omega (arith, x.0, e), subst (Earned s g i) (sym e) (earned_kept i (f i) (omega (arith, low, e)) x.1))
      numbered_kept i l n (inr y) low = let x = y.0 low in (x.0, earned_kept i (g i) (omega (arith, low)) x.1)

      held_kept : (i : ℕ) → i < s.items → ((l : i < s.items) → f i ≡ held_number → (j : ℕ) × Stuck s f i j) → (g i ≡ f i) ⊎ ((g i < forced → (g i < bound) × Earned s f i (g i)) × (g i ≡ held_number → (j : ℕ) × Stuck s g i j)) → g i ≡ held_number → (j : ℕ) × Stuck s g i j
      held_kept i l n (inl e) z = let x = n l (sym e ∙ z) in (x.0, stuck_kept i x.0 x.1)
      held_kept i l n (inr y) z = y.1 z

  word_at : (f g : ℕ → ℕ) (x : ℕ) → ((h : ℕ) → h ≢ x → g h ≡ f h) → (i : ℕ) → f i ≤ held_number → g x ≤ held_number → g i ≤ held_number
  word_at f g x others i before here = go (ℕ_discrete i x)
    where
      go : Dec (i ≡ x) → g i ≤ held_number
      go (yes q) = let z = ap g q in omega (arith, z, here)
      go (no ne) = omega (arith, others i ne, before)

  -- The word of one item that is not settled changes.
  module _ (f g : ℕ → ℕ) (x : ℕ) (unsettled : Fixed (f x) → ⊥) (others : (h : ℕ) → h ≢ x → g h ≡ f h) where
    keeps : (h : ℕ) → Fixed (f h) → g h ≡ f h
    keeps h z = go (ℕ_discrete h x)
      where
        go : Dec (h ≡ x) → g h ≡ f h
        go (yes q) = absurd (unsettled (subst (λ k. Fixed (f k)) q z))
        go (no ne) = others h ne

    changed : (bound : ℕ) → (g x < forced → (g x < bound) × Earned s f x (g x)) → (g x ≡ held_number → (j : ℕ) × Stuck s f x j) → (i : ℕ) → (g i ≡ f i) ⊎ ((g i < forced → (g i < bound) × Earned s f i (g i)) × (g i ≡ held_number → (j : ℕ) × Stuck s g i j))
    changed bound n h i = go (ℕ_discrete i x)
      where
        go : Dec (i ≡ x) → (g i ≡ f i) ⊎ ((g i < forced → (g i < bound) × Earned s f i (g i)) × (g i ≡ held_number → (j : ℕ) × Stuck s g i j))
        go (yes q) = inr (subst (λ k. (g k < forced → (g k < bound) × Earned s f k (g k)) × (g k ≡ held_number → (j : ℕ) × Stuck s g k j)) (sym q) (n, λ z. let y = h z in (y.0, stuck_kept f g keeps x y.0 y.1)))
        go (no ne) = inl (others i ne)

    not_fresh : (i : ℕ) → f i ≢ fresh → g x ≢ fresh → g i ≢ fresh
    not_fresh i before here e = go (ℕ_discrete i x)
      where
        go : Dec (i ≡ x) → ⊥
        go (yes q) = here (sym (ap g q) ∙ e)
        go (no ne) = before (sym (others i ne) ∙ e)

  -- an item to which no walk came goes onto the path
  module _ (f g : ℕ → ℕ) (path : List ℕ) (next depth bound x : ℕ) (w : Walking s f path next depth bound) (inside : x < s.items) (was : f x ≡ fresh) (is : OnPath (g x)) (others : (h : ℕ) → h ≢ x → g h ≡ f h) (room : depth < length path) where
    abbrev after : List ℕ
    after = slice_set path depth x

    here : slice_index after depth ≡ x
    here = get_or-set_same path depth x 0 room

    there : (p : ℕ) → p < depth → slice_index after p ≡ slice_index path p
    there p l = get_or-set_other path depth p x 0 (omega (arith, l))

    not_x : (p : ℕ) → p < depth → slice_index path p ≢ x
    not_x p l q = let z = w.on_path p l in let y = ap f q in omega (arith, z.1, y, was)

    length_after : length after ≡ length path
    length_after = length-set path depth x

    pub enter_walking : (g x ≡ forced → (p : ℕ) → suc p ≡ depth → (j : ℕ) × OneWay s (slice_index path p) j x) → Walking s g after next (depth + 1) bound
    enter_walking link = record {
      near = w.near;
      room = omega (arith, length_after, room);
      few = w.few;
      given = given_kept f g kept bound w.few w.given;
      word = λ i l. word_at f g x others i (w.word i l) (omega (arith, is.1));
      begun = λ i l. not_fresh f g x unset others i (w.begun i l) (λ e. omega (arith, e, is.1));
      numbered = λ i l. numbered_kept f g kept bound bound (omega arith) i l (w.numbered i) (changes i);
      held = λ i l. held_kept f g kept bound bound (omega arith) i l (w.held i) (changes i);
      inside = λ p l. inside_at p (ℕ_discrete p depth) l;
      on_path = λ p l. on_path_at p (ℕ_discrete p depth) l;
      listed = λ i l e. listed_at i l e (ℕ_discrete i x);
      distinct = λ p q l h. distinct_at p q l h (ℕ_discrete q depth);
      linked = λ p q l h e. linked_at p q l h e (ℕ_discrete q depth);
    }
      where
        unset : Fixed (f x) → ⊥
        unset z = omega (arith, z, was)

        kept : (h : ℕ) → Fixed (f h) → g h ≡ f h
        kept = keeps f g x unset others

        changes : (i : ℕ) → (g i ≡ f i) ⊎ ((g i < forced → (g i < bound) × Earned s f i (g i)) × (g i ≡ held_number → (j : ℕ) × Stuck s g i j))
        changes = changed f g x unset others bound (λ l. absurd (omega (arith, l, is.0))) (λ e. absurd (omega (arith, e, is.1)))

        same : (p : ℕ) → p < depth → g (slice_index after p) ≡ f (slice_index path p)
        same p l = ap g (there p l) ∙ others (slice_index path p) (not_x p l)

        inside_at : (p : ℕ) → Dec (p ≡ depth) → p < depth + 1 → slice_index after p < s.items
        inside_at p (yes e) l = let z = ap (slice_index after) e in omega (arith, z, here, inside)
        inside_at p (no ne) l = let z = w.inside p (omega (arith, ne)) in omega (arith, z, there p (omega (arith, ne)))

        on_path_at : (p : ℕ) → Dec (p ≡ depth) → p < depth + 1 → OnPath (g (slice_index after p))
        on_path_at p (yes e) l = subst (λ k. OnPath (g k)) (sym (ap (slice_index after) e ∙ here)) is
        on_path_at p (no ne) l = let h : p < depth = omega (arith, ne) in subst OnPath (sym (same p h)) (w.on_path p h)

        listed_at : (i : ℕ) → i < s.items → OnPath (g i) → Dec (i ≡ x) → Listed after 0 (depth + 1) i
        listed_at i l e (yes q) = (depth, omega arith, omega arith, here ∙ sym q)
        listed_at i l e (no ne) = let y = w.listed i l (subst OnPath (others i ne) e) in (y.0, y.1, omega (arith, y.2), there y.0 y.2 ∙ y.3)

        distinct_at : (p q : ℕ) → p < q → q < depth + 1 → Dec (q ≡ depth) → slice_index after p ≢ slice_index after q
        distinct_at p q l h (yes e) z = not_x p (omega (arith, e)) (sym (there p (omega (arith, e))) ∙ z ∙ ap (slice_index after) e ∙ here)
        distinct_at p q l h (no ne) z = w.distinct p q l (omega (arith, ne)) (sym (there p (omega (arith, ne))) ∙ z ∙ there q (omega (arith, ne)))

        linked_at : (p q : ℕ) → suc p ≡ q → q < depth + 1 → g (slice_index after q) ≡ forced → Dec (q ≡ depth) → (j : ℕ) × OneWay s (slice_index after p) j (slice_index after q)
        linked_at p q l h z (yes e) =
            let at : slice_index after q ≡ x = ap (slice_index after) e ∙ here in
            let y = link (sym (ap g at) ∙ z) p (l ∙ e) in
            (y.0, subst (λ k. OneWay s k y.0 (slice_index after q)) (sym (there p (omega (arith, e)))) (subst (λ k. OneWay s (slice_index path p) y.0 k) (sym at) y.1))
        linked_at p q l h z (no ne) =
            let m : q < depth = omega (arith, ne) in
            let y = w.linked p q l m (sym (same q m) ∙ z) in
            (y.0, subst (λ k. OneWay s k y.0 (slice_index after q)) (sym (there p (omega (arith, ne)))) (subst (λ k. OneWay s (slice_index path p) y.0 k) (sym (there q m)) y.1))

  -- the last item of the path is settled and leaves it
  module _ (f g : ℕ → ℕ) (path : List ℕ) (next depth d old bound x : ℕ) (w : Walking s f path next depth old) (last : suc d ≡ depth) (at : slice_index path d ≡ x) (settled : Fixed (g x)) (word : g x ≤ held_number) (others : (h : ℕ) → h ≢ x → g h ≡ f h) where
    pub leave_walking : old ≤ bound → bound ≤ s.items → (bound ≡ old) ⊎ (suc (g x) ≡ bound) → (g x < forced → (g x < bound) × Earned s f x (g x)) → (g x ≡ held_number → (j : ℕ) × Stuck s f x j) → Walking s g path next d bound
    leave_walking grows few given number held = record {
      near = w.near;
      room = omega (arith, w.room, last);
      few = few;
      given = given_at given;
      word = λ i l. word_at f g x others i (w.word i l) word;
      begun = λ i l. not_fresh f g x unset others i (w.begun i l) (λ e. omega (arith, settled, e));
      numbered = λ i l. numbered_kept f g kept old bound grows i l (w.numbered i) (changes i);
      held = λ i l. held_kept f g kept old bound grows i l (w.held i) (changes i);
      inside = λ p l. w.inside p (omega (arith, l, last));
      on_path = λ p l. subst OnPath (sym (same p l)) (w.on_path p (omega (arith, l, last)));
      listed = λ i l e. listed_at i l e (ℕ_discrete i x);
      distinct = λ p q l h. w.distinct p q l (omega (arith, h, last));
      linked = λ p q l h z. w.linked p q l (omega (arith, h, last)) (sym (same q h) ∙ z);
    }
      where
        was : OnPath (f x)
        was = subst (λ k. OnPath (f k)) at (w.on_path d (omega (arith, last)))

        unset : Fixed (f x) → ⊥
        unset z = omega (arith, z, was.0, was.1)

        same : (p : ℕ) → p < d → g (slice_index path p) ≡ f (slice_index path p)
        same p l = others (slice_index path p) (λ e. w.distinct p d l (omega (arith, last)) (e ∙ sym at))

        kept : (h : ℕ) → Fixed (f h) → g h ≡ f h
        kept = keeps f g x unset others

        changes : (i : ℕ) → (g i ≡ f i) ⊎ ((g i < forced → (g i < bound) × Earned s f i (g i)) × (g i ≡ held_number → (j : ℕ) × Stuck s g i j))
        changes = changed f g x unset others bound number held

        x_inside : x < s.items
        x_inside = let z = w.inside d (omega (arith, last)) in omega (arith, z, at)

        given_at : (bound ≡ old) ⊎ (suc (g x) ≡ bound) → (bound ≡ 0) ⊎ ((i : ℕ) × (i < s.items) × (suc (g i) ≡ bound))
        given_at (inl e) = subst (λ n. (n ≡ 0) ⊎ ((i : ℕ) × (i < s.items) × (suc (g i) ≡ n))) (sym e) (given_kept f g kept old w.few w.given)
        given_at (inr e) = inr (x, x_inside, e)

        listed_at : (i : ℕ) → i < s.items → OnPath (g i) → Dec (i ≡ x) → Listed path 0 d i
        listed_at i l e (yes q) = let z = ap g q in absurd (omega (arith, settled, z, e.0, e.1))
        listed_at i l e (no ne) = let y = w.listed i l (subst OnPath (others i ne) e) in (y.0, y.1, before y.0 y.2 y.3 (ℕ_discrete y.0 d), y.3)
          where
            before : (j : ℕ) → j < depth → slice_index path j ≡ i → Dec (j ≡ d) → j < d
            before j h y (yes q) = absurd (ne (sym y ∙ ap (slice_index path) q ∙ at))
            before j h y (no other) = omega (arith, other, h, last)

  -- the only way of a need of the last item stands on the path, and the items behind it are forced: they are held, and it is
  module _ (f g : ℕ → ℕ) (path : List ℕ) (next depth d from bound h : ℕ) (w : Walking s f path next depth bound) (last : suc d ≡ depth) (link : (j : ℕ) × OneWay s (slice_index path d) j h) (before : from < depth) (at : slice_index path from ≡ h) (behind : (p : ℕ) → from < p → p < depth → f (slice_index path p) ≡ forced) (all : (p : ℕ) → from ≤ p → p < depth → g (slice_index path p) ≡ held_number) (others : (i : ℕ) → (g i ≡ f i) ⊎ (Listed path from depth i × (g i ≡ held_number))) where
    kept : (k : ℕ) → Fixed (f k) → g k ≡ f k
    kept k z = go (others k)
      where
        go : (g k ≡ f k) ⊎ (Listed path from depth k × (g k ≡ held_number)) → g k ≡ f k
        go (inl e) = e
        go (inr ((q, lo, l, e), y)) = let a = w.on_path q l in let b = ap f e in absurd (omega (arith, z, a.0, a.1, b))

    stuck_by : (i j k : ℕ) → OneWay s i j k → g k ≡ held_number → Stuck s g i j
    stuck_by i j k (e, way, one) z = (e, λ o y. ap g (one o y) ∙ z)

    stuck_on : (q : ℕ) → from ≤ q → q < depth → Dec (q ≡ d) → (j : ℕ) × Stuck s g (slice_index path q) j
    stuck_on q lo l (yes e) = (link.0, stuck_by (slice_index path q) link.0 h (subst (λ k. OneWay s k link.0 h) (sym (ap (slice_index path) e)) link.1) (ap g (sym at) ∙ all from (omega arith) before))
    stuck_on q lo l (no ne) =
        let m : suc q < depth = omega (arith, ne, l, last) in
        let y = w.linked q (suc q) refl m (behind (suc q) (omega (arith, lo)) m) in
        (y.0, stuck_by (slice_index path q) y.0 (slice_index path (suc q)) y.1 (all (suc q) (omega (arith, lo)) m))

    changes : (i : ℕ) → (g i ≡ f i) ⊎ ((g i < forced → (g i < bound) × Earned s f i (g i)) × (g i ≡ held_number → (j : ℕ) × Stuck s g i j))
    changes i = go (others i)
      where
        go : (g i ≡ f i) ⊎ (Listed path from depth i × (g i ≡ held_number)) → (g i ≡ f i) ⊎ ((g i < forced → (g i < bound) × Earned s f i (g i)) × (g i ≡ held_number → (j : ℕ) × Stuck s g i j))
        go (inl e) = inl e
        go (inr ((q, lo, l, e), y)) = inr ((λ m. absurd (omega (arith, m, y))), λ z. subst (λ k. (j : ℕ) × Stuck s g k j) e (stuck_on q lo l (ℕ_discrete q d)))

    pub circle_walking : Walking s g path next from bound
    circle_walking = record {
      near = w.near;
      room = omega (arith, w.room, before);
      few = w.few;
      given = given_kept f g kept bound w.few w.given;
      word = λ i l. word_of i (w.word i l) (others i);
      begun = λ i l e. begun_at i (w.begun i l) e (others i);
      numbered = λ i l. numbered_kept f g kept bound bound (omega arith) i l (w.numbered i) (changes i);
      held = λ i l. held_kept f g kept bound bound (omega arith) i l (w.held i) (changes i);
      inside = λ p l. w.inside p (omega (arith, l, before));
      on_path = λ p l. subst OnPath (sym (same p l)) (w.on_path p (omega (arith, l, before)));
      listed = λ i l e. listed_at i l e (others i);
      distinct = λ p q l m. w.distinct p q l (omega (arith, m, before));
      linked = λ p q l m z. w.linked p q l (omega (arith, m, before)) (sym (same q m) ∙ z);
    }
      where
        word_of : (i : ℕ) → f i ≤ held_number → (g i ≡ f i) ⊎ (Listed path from depth i × (g i ≡ held_number)) → g i ≤ held_number
        word_of i word (inl z) = omega (arith, z, word)
        word_of i word (inr y) = let z = y.1 in omega (arith, z)

        begun_at : (i : ℕ) → f i ≢ fresh → g i ≡ fresh → (g i ≡ f i) ⊎ (Listed path from depth i × (g i ≡ held_number)) → ⊥
        begun_at i one e (inl z) = one (sym z ∙ e)
        begun_at i one e (inr y) = let z = y.1 in omega (arith, e, z)

        same : (p : ℕ) → p < from → g (slice_index path p) ≡ f (slice_index path p)
        same p l = go (others (slice_index path p))
          where
            go : (g (slice_index path p) ≡ f (slice_index path p)) ⊎ (Listed path from depth (slice_index path p) × (g (slice_index path p) ≡ held_number)) → g (slice_index path p) ≡ f (slice_index path p)
            go (inl e) = e
            go (inr ((q, lo, m, e), y)) = absurd (w.distinct p q (omega (arith, l, lo)) m (sym e))

        listed_at : (i : ℕ) → i < s.items → OnPath (g i) → (g i ≡ f i) ⊎ (Listed path from depth i × (g i ≡ held_number)) → Listed path 0 from i
        listed_at i l e (inr y) = let z = y.1 in absurd (omega (arith, e.1, z))
        listed_at i l e (inl z) = let y = w.listed i l (subst OnPath z e) in (y.0, y.1, first y.0 y.2 y.3 (dec_lt y.0 from), y.3)
          where
            first : (q : ℕ) → q < depth → slice_index path q ≡ i → Dec (q < from) → q < from
            first q m y (yes lt) = lt
            first q m y (no ge) = let a = all q (omega (arith, ge)) m in let b = ap g y in absurd (omega (arith, a, b, e.1))

  -- the next item is passed, to which a walk came
  pub pass_walking : (f : ℕ → ℕ) (path : List ℕ) (next depth bound : ℕ) → Walking s f path next depth bound → next < s.items → f next ≢ fresh → Walking s f path (next + 1) depth bound
  pass_walking f path next depth bound w l ne = record {
    near = omega (arith, l);
    room = w.room;
    few = w.few;
    given = w.given;
    word = w.word;
    begun = λ i h. begun_at i h (ℕ_discrete i next);
    numbered = w.numbered;
    held = w.held;
    inside = w.inside;
    on_path = w.on_path;
    listed = w.listed;
    distinct = w.distinct;
    linked = w.linked;
  }
    where
      begun_at : (i : ℕ) → i < next + 1 → Dec (i ≡ next) → f i ≢ fresh
      begun_at i h (yes q) = subst (λ k. f k ≢ fresh) (sym q) ne
      begun_at i h (no other) = w.begun i (omega (arith, h, other))
