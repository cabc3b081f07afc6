-- A load is emptied in order by one run.
use Rattle.std.proofs.Common.{◌≡◌, ℕ, ◌<◌, ◌⊎◌, inl, inr, List, [], ◌∷◌, refl, sym, ap, ◌∙◌, arith}
use native.Mathlib.Decide.{dec_lt}
use Rattle.std.proofs.lemmas.Bool.{both_ways}
use Rattle.networks.specs.Nets.{Net, Conditions}
use Rattle.loads.specs.Runs as runs
use Rattle.loads.specs.Runs.{Call, Take, MoveOn, Gives, Step, Run, OneRun}
use Rattle.loads.specs.declared.LoadRecord.{LoadRecord}
use Rattle.loads.proofs.Deciding.{one_run}
use Rattle.certificates.specs.Promises.{Emptied}
use Rattle.drains.specs.Orders.{Before, First, Next, home, away, InOrder, ends, next}
use Rattle.drains.proofs.Steps.{smaller_one}

-- of two channels one comes before the other
either_before : (number : ℕ → ℕ) (c e : ℕ) → (Before number c e ⊎ Before number e c) ⊎ (c ≡ e)
either_before number c e = go (dec_lt (number c) (number e)) (dec_lt (number e) (number c)) (dec_lt c e) (dec_lt e c)
  where
    go : Dec (number c < number e) → Dec (number e < number c) → Dec (c < e) → Dec (e < c) → (Before number c e ⊎ Before number e c) ⊎ (c ≡ e)
    go (yes l) _ _ _ = inl (inl (inl l))
    go (no x) (yes l) _ _ = inl (inr (inl l))
    go (no x) (no y) (yes l) _ = inl (inl (inr (omega (arith, x, y), l)))
    go (no x) (no y) (no z) (yes l) = inl (inr (inr (omega (arith, x, y), l)))
    go (no x) (no y) (no z) (no w) = inr (omega (arith, z, w))

-- one packet is the first
first_one : (n : Net) (number : ℕ → ℕ) (l : List LoadRecord) (c d e f : ℕ) → First n number l c d → First n number l e f → (c ≡ e) × (d ≡ f)
first_one n number l c d e f x y = go (either_before number c e)
  where
    go : (Before number c e ⊎ Before number e c) ⊎ (c ≡ e) → (c ≡ e) × (d ≡ f)
    go (inl (inl before)) = absurd (y.none_before c before (d, x.stands))
    go (inl (inr before)) = absurd (x.none_before e before (f, y.stands))
    go (inr same) = (same, cc (same, x.stands.1, y.stands.1))

-- one call comes next
next_one : (n : Net) (number : ℕ → ℕ) (l : List LoadRecord) (a b : Call) → Next n number l a → Next n number l b → b ≡ a
next_one n number l _ _ (home c d first here) (home e f other there) =
    ap Take (sym (first_one n number l c d e f first other).0)
next_one n number l _ _ (home c d first here) (away e f j g other far smaller) =
    let same = first_one n number l c d e f first other in
    absurd (both_ways (n.home c d) (cc (same.0, same.1, far)) here)
next_one n number l _ _ (away c d k h first far smaller) (home e f other there) =
    let same = first_one n number l c d e f first other in
    absurd (both_ways (n.home c d) far (cc (same.0, same.1, there)))
next_one n number l _ _ (away c d k h first far smaller) (away e f j g other away_too least) =
    let same = first_one n number l c d e f first other in
    let way = smaller_one n number c d k h j g smaller (rw (same.0, same.1) least) in
    cc (same.0, way.0)

-- nothing comes next where no packet stands
none_next : (n : Net) (number : ℕ → ℕ) (l : List LoadRecord) (call : Call) → Emptied n l → Next n number l call → ⊥
none_next n number l _ none (home c d first here) = none c (d, first.stands)
none_next n number l _ none (away c d k h first far smaller) = none c (d, first.stands)

module _ (n : Net) (ok : Conditions n) (number : ℕ → ℕ) where
  -- steps that make one call from one load are one step, and leave one load
  one_step : (l m o : List LoadRecord) (s t : Step) → t.call ≡ s.call → Gives n l s.call s.answer m → Gives n l t.call t.answer o → (t ≡ s) × (o ≡ m)
  one_step l m o s t same x y =
      let only = (one_run n ok l (s.call ∷ [])).only in
      let here = only (s ∷ []) m refl (runs.next x runs.ends) in
      let there = only (t ∷ []) o (ap (λ (call : Call). call ∷ []) same) (runs.next y runs.ends) in
      let lists : t ∷ [] ≡ s ∷ [] = there.0 ∙ sym here.0 in
      (cc (lists), there.1 ∙ sym here.1)

  pub one_order : (l m o : List LoadRecord) (ss ts : List Step) → InOrder n number l ss m → Emptied n m → InOrder n number l ts o → Emptied n o → (ts ≡ ss) × (o ≡ m)
  one_order l m o [] [] ends empty ends other = (refl, refl)
  one_order l m o [] (t ∷ ts) ends empty (next comes fine gives rest) other = absurd (none_next n number l t.call empty comes)
  one_order l m o (s ∷ ss) [] (next comes fine gives rest) empty ends other = absurd (none_next n number l s.call other comes)
  one_order l m o (s ∷ ss) (t ∷ ts) (next {m = l'} comes fine gives rest) empty (next {m = o'} comes' fine' gives' rest') other =
      let first = one_step l l' o' s t (next_one n number l s.call t.call comes comes') gives gives' in
      let after = one_order l' m o ss ts rest empty (rw (← first.1) rest') other in
      (cc (first.0, after.0), after.1)
