-- The list of open items through a round.
use Rattle.std.proofs.Common.{◌≡◌, ℕ, suc, ◌+◌, ◌<◌, ◌≤◌, ◌≢◌, ◌⊎◌, true, false, List, length, slice_index, slice_set, inl, inr, sym, ap, ◌∙◌, arith, subst}
use Rattle.std.proofs.lemmas.List.{get_or-set_same, get_or-set_other}
use native.Mathlib.Decide.{ℕ_discrete}
use Rattle.numbering.specs.Systems.{System, Conditions, most_items}
use Rattle.numbering.specs.Rounds.{Done, Open, Listed, Midway, Listing, Settled}
use Rattle.numbering.proofs.Settling.{done_later, done_same, open_same}

module _ (s : System) (ok : Conditions s) (r : ℕ) (early : r ≤ most_items) where
  pub open_high : (f : ℕ → ℕ) (i t : ℕ) → Open s f t i → suc r < f i
  open_high f i t o = omega (arith, o.few, ok.few_slots, early)

  pub midway_start : (f : ℕ → ℕ) (list : List ℕ) (end : ℕ) → Listing s f list r end → Midway s f list r 0 0 end
  midway_start f list end l = record {
    behind = omega arith;
    ahead = omega arith;
    kept_open = λ j h. absurd (omega arith);
    rest_open = λ j lo h. l.all_open j h;
    rising_kept = λ j k h h'. absurd (omega arith);
    rising_over = λ j k h lo h'. absurd (omega arith);
    rising_rest = λ j k lo h h'. l.rising j k h h';
    cover = λ i h. cover i (l.cover i h);
    none = λ e i h q. none i q (l.cover i h);
    some = λ h. absurd (omega arith);
    last = l.last;
  }
    where
      cover : (i : ℕ) → Done s f r i ⊎ Listed list 0 end i → Done s f (suc r) i ⊎ (Listed list 0 0 i ⊎ Listed list 0 end i)
      cover i (inl d) = inl (done_later s f r i d)
      cover i (inr l) = inr (inr l)

      none : (i : ℕ) → f i ≡ r → Done s f r i ⊎ Listed list 0 end i → ⊥
      none i q (inl d) = omega (arith, d.early, q)
      none i q (inr (j, lo, h, e)) = let z = open_high f (slice_index list j) r (l.all_open j h) in let y = ap f e in omega (arith, z, y, q)

  module _ (f g : ℕ → ℕ) (list : List ℕ) (kept p end : ℕ) (m : Midway s f list r kept p end) (below : p < end) where
    abbrev x : ℕ
    x = slice_index list p

    x_open : Open s f r x
    x_open = m.rest_open p (omega arith) below

    high : r < f x
    high = let z = open_high f x r x_open in omega (arith, z)

    not_done : (i : ℕ) → Done s f (suc r) i → i ≢ x
    not_done i d q = let z = ap f q in omega (arith, d.early, high, z)

    before_x : (j : ℕ) → j < kept → slice_index list j ≢ x
    before_x j h q = let z = m.rising_over j p h (omega arith) below in omega (arith, z, q)

    behind_x : (j : ℕ) → p < j → j < end → slice_index list j ≢ x
    behind_x j lo h q = let z = m.rising_rest p j (omega arith) lo h in omega (arith, z, q)

    last_same : (k : ℕ → ℕ) → ((h : ℕ) → h ≢ x → k h ≡ f h) → (r ≡ 0) ⊎ ((i : ℕ) × (i < s.items) × (suc (f i) ≡ r)) → (r ≡ 0) ⊎ ((i : ℕ) × (i < s.items) × (suc (k i) ≡ r))
    last_same k others (inl z) = inl z
    last_same k others (inr (i, h, e)) = inr (i, h, ap suc (others i (λ q. let z = ap f q in omega (arith, z, high, e))) ∙ e)

    pub midway_numbered : Settled s f g r x true → Midway s g list r kept (p + 1) end
    midway_numbered y = record {
      behind = omega (arith, m.behind);
      ahead = omega arith;
      kept_open = λ j h. open_same s f g x r y.others high y.late (slice_index list j) (suc r) (before_x j h) (omega arith) (m.kept_open j h);
      rest_open = λ j lo h. open_same s f g x r y.others high y.late (slice_index list j) r (behind_x j (omega arith) h) (omega arith) (m.rest_open j (omega arith) h);
      rising_kept = m.rising_kept;
      rising_over = λ j k h lo h'. m.rising_over j k h (omega arith) h';
      rising_rest = λ j k lo h h'. m.rising_rest j k (omega arith) h h';
      cover = λ i h. cover i (m.cover i h);
      none = λ e. absurd (omega (arith, m.behind));
      some = λ h. (x, x_open.inside, y.state.1);
      last = last_same g y.others m.last;
    }
      where
        cover : (i : ℕ) → Done s f (suc r) i ⊎ (Listed list 0 kept i ⊎ Listed list p end i) → Done s g (suc r) i ⊎ (Listed list 0 kept i ⊎ Listed list (p + 1) end i)
        cover i (inl d) = inl (done_same s f g x r y.others high y.late i (suc r) (not_done i d) (omega arith) d)
        cover i (inr (inl l)) = inr (inl l)
        cover i (inr (inr (j, lo, h, e))) = at (ℕ_discrete j p)
          where
            at : Dec (j ≡ p) → Done s g (suc r) i ⊎ (Listed list 0 kept i ⊎ Listed list (p + 1) end i)
            at (yes q) = inl (subst (λ k. Done s g (suc r) k) (sym (ap (slice_index list) q) ∙ e) y.state.0)
            at (no ne) = inr (inr (j, omega (arith, ne), h, e))

    module _ (room : kept < length list) where
      abbrev after : List ℕ
      after = slice_set list kept x

      here : slice_index after kept ≡ x
      here = get_or-set_same list kept x 0 room

      there : (j : ℕ) → j ≢ kept → slice_index after j ≡ slice_index list j
      there j ne = get_or-set_other list kept j x 0 ne

      pub midway_kept : Settled s f g r x false → Midway s g after r (kept + 1) (p + 1) end
      midway_kept y = record {
        behind = omega (arith, m.behind);
        ahead = omega arith;
        kept_open = λ j h. kept_open j h (ℕ_discrete j kept);
        rest_open = λ j lo h. subst (Open s g r) (sym (there j (omega (arith, m.behind)))) (open_same s f g x r y.others high y.late (slice_index list j) r (behind_x j (omega arith) h) (omega arith) (m.rest_open j (omega arith) h));
        rising_kept = λ j k h h'. rising_kept j k h h' (ℕ_discrete k kept);
        rising_over = λ j k h lo h'. rising_over j k h lo h' (ℕ_discrete j kept);
        rising_rest = λ j k lo h h'. omega (arith, there j (omega (arith, m.behind)), there k (omega (arith, m.behind)), m.rising_rest j k (omega arith) h h');
        cover = λ i h. cover i (m.cover i h);
        none = λ e i h q. m.none (omega arith) i h (none i q (ℕ_discrete i x));
        some = λ h. let z = m.some (omega arith) in (z.0, z.1, y.others z.0 (λ q. let w = ap f q in omega (arith, w, high, z.2)) ∙ z.2);
        last = last_same g y.others m.last;
      }
        where
          kept_open : (j : ℕ) → j < kept + 1 → Dec (j ≡ kept) → Open s g (suc r) (slice_index after j)
          kept_open j h (yes q) = subst (Open s g (suc r)) (sym (ap (slice_index after) q ∙ here)) y.state
          kept_open j h (no ne) =
              let l : j < kept = omega (arith, ne) in
              subst (Open s g (suc r)) (sym (there j ne)) (open_same s f g x r y.others high y.late (slice_index list j) (suc r) (before_x j l) (omega arith) (m.kept_open j l))

          rising_kept : (j k : ℕ) → j < k → k < kept + 1 → Dec (k ≡ kept) → slice_index after j < slice_index after k
          rising_kept j k h h' (yes q) =
              let z = ap (slice_index after) q in
              omega (arith, z, here, there j (omega arith), m.rising_over j p (omega arith) (omega arith) below)
          rising_kept j k h h' (no ne) = omega (arith, there j (omega (arith, ne)), there k ne, m.rising_kept j k h (omega (arith, ne)))

          rising_over : (j k : ℕ) → j < kept + 1 → p + 1 ≤ k → k < end → Dec (j ≡ kept) → slice_index after j < slice_index after k
          rising_over j k h lo h' (yes q) =
              let z = ap (slice_index after) q in
              omega (arith, z, here, there k (omega (arith, m.behind)), m.rising_rest p k (omega arith) (omega arith) h')
          rising_over j k h lo h' (no ne) = omega (arith, there j ne, there k (omega (arith, m.behind)), m.rising_over j k (omega (arith, ne)) (omega arith) h')

          cover : (i : ℕ) → Done s f (suc r) i ⊎ (Listed list 0 kept i ⊎ Listed list p end i) → Done s g (suc r) i ⊎ (Listed after 0 (kept + 1) i ⊎ Listed after (p + 1) end i)
          cover i (inl d) = inl (done_same s f g x r y.others high y.late i (suc r) (not_done i d) (omega arith) d)
          cover i (inr (inl (j, lo, h, e))) = inr (inl (j, lo, omega arith, there j (omega arith) ∙ e))
          cover i (inr (inr (j, lo, h, e))) = at (ℕ_discrete j p)
            where
              at : Dec (j ≡ p) → Done s g (suc r) i ⊎ (Listed after 0 (kept + 1) i ⊎ Listed after (p + 1) end i)
              at (yes q) = inr (inl (kept, omega arith, omega arith, here ∙ sym (ap (slice_index list) q) ∙ e))
              at (no ne) = inr (inr (j, omega (arith, ne), h, there j (omega (arith, ne, lo, m.behind)) ∙ e))

          none : (i : ℕ) → g i ≡ r → Dec (i ≡ x) → f i ≡ r
          none i q (yes w) = let z = ap g w in let l = open_high g x (suc r) y.state in absurd (omega (arith, z, l, q))
          none i q (no ne) = sym (y.others i ne) ∙ q
