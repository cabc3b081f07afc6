-- Items that are settled in a round.
use Rattle.std.proofs.Common.{◌≡◌, ℕ, suc, ◌+◌, ◌-◌, ◌<◌, ◌≤◌, ◌≢◌, ◌⊎◌, true, false, Option, Some, None, MatchOption, unwrap_or, List, length, slice_index, slice_set, inl, inr, sym, ap, ◌∙◌, arith, subst}
use Rattle.std.proofs.lemmas.List.{get_or-set_same, get_or-set_other}
use native.Mathlib.Decide.{ℕ_discrete, dec_lt}
use Rattle.numbering.specs.Systems.{System, Conditions, Way, most_items}
use Rattle.numbering.specs.Numbers.{held_number}
use Rattle.numbering.specs.Rounds.{Met, Unmet, Passed, Done, Open, Settled}

-- the slots that a search for one that is not met passes
pub passed_found : (s : System) (number : ℕ → ℕ) (i r from slots : ℕ) → from ≤ slots → slots ≡ s.slots → (x : Option ℕ) → MatchOption x ((j : ℕ) → from ≤ j → j < slots → Met s number i r j) (λ k. (from ≤ k) × (k < slots) × Unmet s number i r k × ((j : ℕ) → from ≤ j → j < k → Met s number i r j)) → Passed s number i r from (unwrap_or x slots)
passed_found s number i r from slots l e None all = record { onward = l; inside = omega (arith, e); met = all; stop = λ h. absurd (omega (arith, e)) }
passed_found s number i r from slots l e (Some k) f = record { onward = f.0; inside = omega (arith, e, f.1); met = f.3; stop = λ h. f.2 }

met_later : (s : System) (number : ℕ → ℕ) (i r j : ℕ) → Met s number i r j → Met s number i (suc r) j
met_later s number i r j m e = let w = m e in (w.0, w.1, omega (arith, w.2))

pub done_later : (s : System) (number : ℕ → ℕ) (r i : ℕ) → Done s number r i → Done s number (suc r) i
done_later s number r i d = record { early = omega (arith, d.early); each = d.each; last = d.last }

-- The number of one item, which was not numbered before round r, changes to one that is not below r.
module _ (s : System) (f g : ℕ → ℕ) (x r : ℕ) (others : (h : ℕ) → h ≢ x → g h ≡ f h) (high : r < f x) (late : r ≤ g x) where
  pub met_same : (i t j : ℕ) → t ≤ suc r → Met s f i t j → Met s g i t j
  met_same i t j few m e =
      let w = m e in
      let same = others w.0 (λ q. let z : f w.0 ≡ f x = ap f q in omega (arith, w.2, z)) in
      (w.0, w.1, omega (arith, w.2, same))

  not_below : (t h : ℕ) → t ≤ suc r → t ≤ suc (f h) → t ≤ suc (g h)
  not_below t h few l = go (ℕ_discrete h x)
    where
      go : Dec (h ≡ x) → t ≤ suc (g h)
      go (yes q) = let z : g h ≡ g x = ap g q in omega (arith, z)
      go (no ne) = omega (arith, others h ne)

  pub done_same : (i t : ℕ) → i ≢ x → t ≤ suc r → Done s f t i → Done s g t i
  done_same i t ne few d = record {
    early = omega (arith, others i ne, d.early);
    each = λ j. subst (λ n. Met s g i n j) (sym (others i ne)) (met_same i (f i) j (omega (arith, d.early)) (d.each j));
    last = last d.last;
  }
    where
      last : (f i ≡ 0) ⊎ ((j : ℕ) × (s.need i j ≡ true) × ((h : ℕ) → Way s i j h → f i ≤ suc (f h))) → (g i ≡ 0) ⊎ ((j : ℕ) × (s.need i j ≡ true) × ((h : ℕ) → Way s i j h → g i ≤ suc (g h)))
      last (inl z) = inl (others i ne ∙ z)
      last (inr (j, e, w)) = inr (j, e, λ h y. omega (arith, others i ne, not_below (f i) h (omega (arith, d.early)) (w h y)))

  later : (i t : ℕ) → t ≤ suc r → (t ≡ 0) ⊎ ((j : ℕ) × (s.need i j ≡ true) × ((h : ℕ) → Way s i j h → t ≤ suc (f h))) → (t ≡ 0) ⊎ ((j : ℕ) × (s.need i j ≡ true) × ((h : ℕ) → Way s i j h → t ≤ suc (g h)))
  later i t few (inl z) = inl z
  later i t few (inr (j, e, w)) = inr (j, e, λ h y. not_below t h few (w h y))

  pub open_same : (i t : ℕ) → i ≢ x → t ≤ suc r → Open s f t i → Open s g t i
  open_same i t ne few o = record {
    inside = o.inside;
    few = omega (arith, others i ne, o.few);
    word = omega (arith, others i ne, o.word);
    passed = λ j h. met_same i t j few (o.passed j (omega (arith, others i ne)));
    last = later i t few o.last;
  }

  -- the slots before that at which the search stops
  met_before : (to : ℕ) → Open s f r x → Passed s f x r (held_number - f x) to → (j : ℕ) → j < to → Met s f x r j
  met_before to o p j h = go (dec_lt (f x + j) held_number)
    where
      go : Dec (f x + j < held_number) → Met s f x r j
      go (yes l) = o.passed j l
      go (no l) = p.met j (omega (arith, o.word)) h

  pub numbered : Conditions s → Open s f r x → Passed s f x r (held_number - f x) s.slots → g x ≡ r → Done s g (suc r) x
  numbered ok o p e = record {
    early = omega (arith, e);
    each = λ j n. subst (λ k. Met s g x k j) (sym e) (met_same x r j (omega arith) (met_before s.slots o p j (ok.need_inside x j n).1)) n;
    last = subst (λ k. (k ≡ 0) ⊎ ((j : ℕ) × (s.need x j ≡ true) × ((h : ℕ) → Way s x j h → k ≤ suc (g h)))) (sym e) (later x r (omega arith) o.last);
  }

  pub blocked : (to : ℕ) → to < s.slots → s.slots ≤ held_number → Open s f r x → Passed s f x r (held_number - f x) to → g x ≡ held_number - to → Open s g (suc r) x
  blocked to l few o p e =
      let stop = p.stop l in
      record {
        inside = o.inside;
        few = omega (arith, e);
        word = omega (arith, e);
        passed = λ j h. met_same x (suc r) j (omega arith) (met_later s f x r j (met_before to o p j (omega (arith, e))));
        last = later x (suc r) (omega arith) (inr (to, stop.0, λ h w. let z = stop.1 h w in omega (arith, z)));
      }

-- what writing the word of an open item comes to
module _ (s : System) (ok : Conditions s) (ns : List ℕ) (x r to : ℕ) (words : length ns ≡ s.items) (early : r ≤ most_items) (o : Open s (slice_index ns) r x) (p : Passed s (slice_index ns) x r (held_number - slice_index ns x) to) where
  others : (v h : ℕ) → h ≢ x → slice_index (slice_set ns x v) h ≡ slice_index ns h
  others v h ne = get_or-set_other ns x h v 0 ne

  at : (v : ℕ) → slice_index (slice_set ns x v) x ≡ v
  at v = get_or-set_same ns x v 0 (omega (arith, o.inside, words))

  high : r < slice_index ns x
  high = omega (arith, o.few, ok.few_slots, early)

  pub settled_numbered : to ≡ s.slots → Settled s (slice_index ns) (slice_index (slice_set ns x r)) r x true
  settled_numbered e =
      let late : r ≤ slice_index (slice_set ns x r) x = omega (arith, at r) in
      let q = subst (λ (t : ℕ). Passed s (slice_index ns) x r (held_number - slice_index ns x) t) e p in
      record { others = others r; late = late; state = (numbered s (slice_index ns) (slice_index (slice_set ns x r)) x r (others r) high late ok o q (at r), at r) }

  pub settled_open : to < s.slots → Settled s (slice_index ns) (slice_index (slice_set ns x (held_number - to))) r x false
  settled_open l =
      let v = held_number - to in
      let late : r ≤ slice_index (slice_set ns x v) x = omega (arith, at v, ok.few_slots, early) in
      record { others = others v; late = late; state = blocked s (slice_index ns) (slice_index (slice_set ns x v)) x r (others v) high late to l (omega (arith, ok.few_slots)) o p (at v) }
