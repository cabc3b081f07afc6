-- Steps of the walks.
use Rattle.std.proofs.Common.{◌≡◌, ◌≢◌, ℕ, suc, ◌+◌, ◌-◌, ◌<◌, ◌≤◌, ◌⊎◌, Bool, true, false, cond, List, length, slice_index, slice_set, take, drop, max, inl, inr, sym, refl, ap, ◌∙◌, arith, subst, length-take-le, length-drop}
use Rattle.std.proofs.lemmas.List.{get_or-set_same, get_or-set_other, get_or-take, get_or-drop}
use native.Mathlib.Decide.{dec_lt}
use Rattle.numbering.specs.Systems.{System, Conditions}
use Rattle.numbering.specs.Numbers.{held_number}
use Rattle.numbering.specs.Rounds.{Listed}
use Rattle.numbering.specs.Walks.{fresh, entered, forced, OnPath, Bounds, Earned, Stuck, OneWay, Waiting, Walking, WalkingAt, Stepped, Circle, AllHeld}
use Rattle.numbering.specs.declared.walks.Walk.{Walk}
use Rattle.numbering.proofs.Deciding.{way_inside}
use Rattle.numbering.proofs.Walking.{enter_walking, leave_walking, circle_walking, pass_walking}
use Rattle.numbering.proofs.Counting.{same_fresh, less_fresh, held_fresh, some_fresh}

module _ (s : System) (ok : Conditions s) (ns path : List ℕ) (walk : Walk) (words : length ns ≡ s.items) (list : length path ≡ s.items) (a : WalkingAt s ns path walk) where
  abbrev next : ℕ
  next = walk.next

  abbrev depth : ℕ
  depth = walk.depth

  abbrev bound : ℕ
  bound = walk.bound

  w : Walking s (slice_index ns) path next depth bound
  w = a.walking

  others : (x v h : ℕ) → h ≢ x → slice_index (slice_set ns x v) h ≡ slice_index ns h
  others x v h ne = get_or-set_other ns x h v 0 ne

  at : (x v : ℕ) → x < s.items → slice_index (slice_set ns x v) x ≡ v
  at x v l = get_or-set_same ns x v 0 (omega (arith, l, words))

  module _ (some : 0 < depth) where
    abbrev x : ℕ
    x = slice_index path (depth - 1)

    x_inside : x < s.items
    x_inside = w.inside (depth - 1) (omega (arith, some))

    was : slice_index ns x ≢ fresh
    was e = omega (arith, e, (w.on_path (depth - 1) (omega (arith, some))).1)

    -- the number that an item gets is not above all that were given before
    bounded : (n : ℕ) → Earned s (slice_index ns) x n → n ≤ bound
    bounded n earned = go earned.last
      where
        go : (n ≡ 0) ⊎ ((j : ℕ) × Bounds s (slice_index ns) x n j) → n ≤ bound
        go (inl z) = omega (arith, z)
        go (inr (j, (e, b))) =
            let h = earned.each j e in
            let y = b h.0 h.1 in
            let z = (w.numbered h.0 (way_inside s ok x j h.0 h.1) (omega (arith, h.2, earned.low))).0 in
            omega (arith, y.0, z)

    number_walking : (n : ℕ) → Earned s (slice_index ns) x n → n < length ns → Walking s (slice_index (slice_set ns x n)) path next (depth - 1) (max bound (n + 1))
    number_walking n earned few =
        let z = at x n x_inside in
        leave_walking s ok (slice_index ns) (slice_index (slice_set ns x n)) path next depth (depth - 1) bound (max bound (n + 1)) x w (omega (arith, some)) refl (λ l. absurd (omega (arith, l, z, few, words, ok.few_items))) (omega (arith, z, few, words, ok.few_items)) (others x n) (omega arith) (omega (arith, few, words, w.few)) (given (dec_lt bound (n + 1))) (λ l. (omega (arith, z), subst (Earned s (slice_index ns) x) (sym z) earned)) (λ e. absurd (omega (arith, e, z, few, words, ok.few_items)))
      where
        given : Dec (bound < n + 1) → (max bound (n + 1) ≡ bound) ⊎ (suc (slice_index (slice_set ns x n) x) ≡ max bound (n + 1))
        given (yes l) = inr (omega (arith, at x n x_inside, l))
        given (no l) = inl (omega (arith, l))

    pub number_step : (n : ℕ) → Earned s (slice_index ns) x n → Stepped s ns (slice_set ns x n) path walk (record { next = next; depth = depth - 1; bound = max bound (n + 1) })
    number_step n earned =
        let low = bounded n earned in
        let same = same_fresh ns x n (omega (arith, x_inside, words)) was (λ e. omega (arith, e, earned.low)) in
        record {
          at = record { walking = number_walking n earned (omega (arith, low, a.spare, some, words)); spare = omega (arith, low, a.spare, some, same) };
          fewer = omega (arith, same, some);
        }

    held_walking : (j : ℕ) × Stuck s (slice_index ns) x j → Walking s (slice_index (slice_set ns x held_number)) path next (depth - 1) bound
    held_walking stuck =
        let z = at x held_number x_inside in
        leave_walking s ok (slice_index ns) (slice_index (slice_set ns x held_number)) path next depth (depth - 1) bound bound x w (omega (arith, some)) refl (λ l. z) (omega (arith, z)) (others x held_number) (omega arith) w.few (inl refl) (λ l. absurd (omega (arith, l, z))) (λ e. stuck)

    pub held_step : (j : ℕ) × Stuck s (slice_index ns) x j → Stepped s ns (slice_set ns x held_number) path walk (record { next = next; depth = depth - 1; bound = bound })
    held_step stuck =
        let same = same_fresh ns x held_number (omega (arith, x_inside, words)) was (λ e. absurd (omega (arith, e))) in
        record { at = record { walking = held_walking stuck; spare = omega (arith, a.spare, some, same) }; fewer = omega (arith, same, some) }

    wait_walking : (way : ℕ) (only : Bool) → (j : ℕ) × Waiting s (slice_index ns) x j way only → slice_index ns way ≡ fresh → depth < length path → Walking s (slice_index (slice_set ns way (cond only forced entered))) (slice_set path depth way) next (depth + 1) bound
    wait_walking way only (j, y) was room =
        enter_walking s ok (slice_index ns) (slice_index (slice_set ns way (cond only forced entered))) path next depth bound way w inside was (subst OnPath (sym is) (on only)) (others way (cond only forced entered)) room (λ e p q. (j, let r : depth - 1 ≡ p = omega (arith, q) in subst (λ k. OneWay s (slice_index path k) j way) r (y.one (one only (sym is ∙ e)))))
      where
        inside : way < s.items
        inside = way_inside s ok x j way y.way

        is : slice_index (slice_set ns way (cond only forced entered)) way ≡ cond only forced entered
        is = at way (cond only forced entered) inside

        on : (b : Bool) → OnPath (cond b forced entered)
        on true = (omega arith, omega arith)
        on false = (omega arith, omega arith)

        one : (b : Bool) → cond b forced entered ≡ forced → b ≡ true
        one true e = refl
        one false e = absurd (omega (arith, e))

    pub wait_step : (way : ℕ) (only : Bool) → (j : ℕ) × Waiting s (slice_index ns) x j way only → slice_index ns way ≡ fresh → Stepped s ns (slice_set ns way (cond only forced entered)) (slice_set path depth way) walk (record { next = next; depth = depth + 1; bound = bound })
    wait_step way only waits is =
        let inside : way < length ns = let l = way_inside s ok x waits.0 way waits.1.way in omega (arith, l, words) in
        let one = some_fresh ns way inside is in
        let less = less_fresh ns way (cond only forced entered) inside is (not_fresh only) in
        record {
          at = record { walking = wait_walking way only waits is (omega (arith, a.spare, one, list)); spare = omega (arith, a.spare, less) };
          fewer = omega (arith, less);
        }
      where
        not_fresh : (b : Bool) → cond b forced entered ≢ fresh
        not_fresh true e = omega (arith, e)
        not_fresh false e = omega (arith, e)

    -- the items of the cycle
    pub circle_inside : (way from : ℕ) → Circle (slice_index ns) (take depth path) way from → (p : ℕ) → p < length (take (depth - from) (drop from path)) → slice_index (take (depth - from) (drop from path)) p < length ns
    circle_inside way from c p l =
        let before : from < depth = omega (arith, c.inside, length-take-le depth path w.room) in
        let len = length-take-le (depth - from) (drop from path) (omega (arith, length-drop from path, w.room)) in
        let z = w.inside (from + p) (omega (arith, l, len, before)) in
        omega (arith, z, get_or-take (depth - from) (drop from path) p 0 (omega (arith, l, len)), get_or-drop from path p 0, words)

    return_walking : (way from : ℕ) (only : Bool) (g : ℕ → ℕ) → (j : ℕ) × Waiting s (slice_index ns) x j way only → only ≡ true → Circle (slice_index ns) (take depth path) way from → AllHeld (slice_index ns) g (take (depth - from) (drop from path)) (length (take (depth - from) (drop from path))) → Walking s g path next from bound
    return_walking way from only g (j, y) one_way c held =
        circle_walking s ok (slice_index ns) g path next depth (depth - 1) from bound way w (omega (arith, some)) (j, y.one one_way) before (sym (first from before) ∙ c.here) (λ p lo l. ap (slice_index ns) (sym (first p l)) ∙ c.behind p lo (omega (arith, l, whole))) (λ p lo l. all p lo l) (λ i. one i (held.others i))
      where
        whole : length (take depth path) ≡ depth
        whole = length-take-le depth path w.room

        before : from < depth
        before = omega (arith, c.inside, whole)

        first : (p : ℕ) → p < depth → slice_index (take depth path) p ≡ slice_index path p
        first p l = get_or-take depth path p 0 l

        behind : length (take (depth - from) (drop from path)) ≡ depth - from
        behind = length-take-le (depth - from) (drop from path) (omega (arith, length-drop from path, w.room))

        second : (p q : ℕ) → from + p ≡ q → q < depth → slice_index (take (depth - from) (drop from path)) p ≡ slice_index path q
        second p q e l = get_or-take (depth - from) (drop from path) p 0 (omega (arith, e, l)) ∙ get_or-drop from path p 0 ∙ ap (slice_index path) e

        all : (p : ℕ) → from ≤ p → p < depth → g (slice_index path p) ≡ held_number
        all p lo l = ap g (sym (second (p - from) p (omega (arith, lo)) l)) ∙ held.all (p - from) (omega (arith, behind, lo, l))

        one : (i : ℕ) → (g i ≡ slice_index ns i) ⊎ (Listed (take (depth - from) (drop from path)) 0 (length (take (depth - from) (drop from path))) i × (g i ≡ held_number)) → (g i ≡ slice_index ns i) ⊎ (Listed path from depth i × (g i ≡ held_number))
        one i (inl e) = inl e
        one i (inr ((p, lo, l, e), z)) = let m : from + p < depth = omega (arith, l, behind) in inr ((from + p, omega arith, m, sym (second p (from + p) refl m) ∙ e), z)

    pub return_step : (way from : ℕ) (only : Bool) (ms : List ℕ) → length ms ≡ length ns → (j : ℕ) × Waiting s (slice_index ns) x j way only → only ≡ true → Circle (slice_index ns) (take depth path) way from → AllHeld (slice_index ns) (slice_index ms) (take (depth - from) (drop from path)) (length (take (depth - from) (drop from path))) → Stepped s ns ms path walk (record { next = next; depth = from; bound = bound })
    return_step way from only ms len waits one_way c held =
        let whole = length-take-le depth path w.room in
        let before : from < depth = omega (arith, c.inside, whole) in
        let same = held_fresh ns ms (take (depth - from) (drop from path)) (length (take (depth - from) (drop from path))) len held in
        record {
          at = record { walking = return_walking way from only (slice_index ms) waits one_way c held; spare = omega (arith, a.spare, before, same) };
          fewer = omega (arith, before, same);
        }

  -- a walk begins
  begin_walking : depth ≤ 0 → next < s.items → slice_index ns next ≡ fresh → 0 < length path → Walking s (slice_index (slice_set ns next entered)) (slice_set path 0 next) (next + 1) 1 bound
  begin_walking none inside was room =
      let z = at next entered inside in
      let e : depth ≡ 0 = omega (arith, none) in
      let start = subst (λ d. Walking s (slice_index ns) path next d bound) e w in
      pass_walking s ok (slice_index (slice_set ns next entered)) (slice_set path 0 next) next 1 bound (enter_walking s ok (slice_index ns) (slice_index (slice_set ns next entered)) path next 0 bound next start inside was (omega (arith, z), omega (arith, z)) (others next entered) room (λ t p q. absurd (omega (arith, q)))) inside (λ e. omega (arith, e, z))

  pub begin_step : depth ≤ 0 → next < s.items → slice_index ns next ≡ fresh → Stepped s ns (slice_set ns next entered) (slice_set path 0 next) walk (record { next = next + 1; depth = 1; bound = bound })
  begin_step none inside is =
      let less = less_fresh ns next entered (omega (arith, inside, words)) is (λ e. absurd (omega (arith, e))) in
      record {
        at = record { walking = begin_walking none inside is (omega (arith, inside, list)); spare = omega (arith, a.spare, less, none) };
        fewer = omega (arith, less, none, inside);
      }
