-- Marking pairs and queueing them.
use Rattle.std.proofs.Common.{◌≡◌, ℕ, zero, suc, ◌^◌, replicate, ◌+◌, ◌-◌, ◌/◌, ◌%◌, ◌<◌, ◌≤◌, true, false, cond, eqb, ◌≢◌, ◌⊎◌, MutBor, List, ◌++◌, ◌∷◌, [], length, get_or, set, Option, Some, None, MatchOption, count_by, sym, refl, ap, ◌∙◌, inl, inr, arith}
use mathlib.Core.Logic.{∥∥₁_map, ∥∥₁_elim}
use native.Mathlib.Decide.{ℕ_discrete}
use native.Mathlib.Nat.{ℕ_set}
use Rattle.std.proofs.lemmas.List.{get_or_default, get_or-set_same, get_or-set_other, get_or_past, length-set, take_all}
use Rattle.std.proofs.lemmas.List.Elements.{All-push, All-weaker, All-get_or}
use Rattle.std.proofs.lemmas.List.Sums.{count_by-le-length, sum_by-set}
use Rattle.std.proofs.lemmas.Bool.{le-ltb, cases_lt}
use Rattle.std.proofs.lemmas.Iterator.Consumers.{YieldsList-from_first, YieldsList-turn}
use Rattle.std.specs.Iterator.{Yields, YieldsFirst}
use borrow.Author.Count.{below_more}
use Rattle.networks.specs.Allowed.{Allowed, enters, moves, pairs, position}
use Rattle.networks.specs.Nets.{Net, Conditions}
use Rattle.networks.specs.Rooms.{first_short}
use Rattle.tracing.specs.declared.Marks.{Marks}
use Rattle.tracing.specs.Entries.{NoEntry}
use Rattle.tracing.specs.Queue.{Queued}
use Rattle.tracing.specs.Queues.{Grown, Taken, Sound, Entered, AllMarked, Passed, Followed}
use Rattle.tracing.specs.Traces.{Tells, Traced, rooms}
use Rattle.networks.proofs.Inside.{allowed_inside}
use Rattle.tracing.proofs.Positions.{allowed_below, position_below, channel_of, place_of}

abbrev one : ℕ → ℕ
one byte = cond (eqb byte 1) 1 0

-- what is marked once position i is
set_marked : (t : List ℕ) (i k : ℕ) → i < length t → (k ≢ i → get_or t k 0 ≡ 1) → get_or (set t i 1) k 0 ≡ 1
set_marked t i k l there = go (ℕ_discrete k i)
  where
    go : Dec (k ≡ i) → get_or (set t i 1) k 0 ≡ 1
    go (yes e) = rw e (get_or-set_same t i 1 0 l)
    go (no ne) = get_or-set_other t i k 1 0 ne ∙ there ne

was_marked : (t : List ℕ) (i k : ℕ) → get_or (set t i 1) k 0 ≡ 1 → (k ≡ i) ⊎ (get_or t k 0 ≡ 1)
was_marked t i k h = go (ℕ_discrete k i)
  where
    go : Dec (k ≡ i) → (k ≡ i) ⊎ (get_or t k 0 ≡ 1)
    go (yes e) = inl e
    go (no ne) = inr (sym (get_or-set_other t i k 1 0 ne) ∙ h)

-- no pair is marked yet
count_none : (n : ℕ) → count_by (λ byte. eqb byte 1) (replicate n 0) ≡ 0
count_none zero = refl
count_none (suc n) = count_none n

none_at : (n i : ℕ) → get_or (replicate {A = ℕ} n 0) i 0 ≡ 0
none_at zero i = let none : List ℕ = [] in get_or_past none i 0 (omega arith)
none_at (suc n) zero = refl
none_at (suc n) (suc i) = none_at n i

pub queued_none : {t q : List ℕ} → t ≡ replicate (length t) 0 → length t < 2 ^ 32 → length q ≡ length t → Queued t q 0 0
queued_none {t} {q} e few words = record {
  few = few;
  words = words;
  binary = λ i. let z = none t i e in omega arith;
  count = ap (count_by (λ byte. eqb byte 1)) e ∙ count_none (length t);
  marked = λ j h. absurd (omega arith);
  held = λ i h. let z = none t i e in absurd (omega arith);
  reached = omega arith;
}
  where
    none : (t : List ℕ) (i : ℕ) → t ≡ replicate (length t) 0 → get_or t i 0 ≡ 0
    none t i e = ap (λ xs. get_or xs i 0) e ∙ none_at (length t) i

-- one pair more is marked and queued
module _ {t q : List ℕ} {end head : ℕ} (x : Queued t q end head) (i : ℕ) (l : i < length t) (e : get_or t i 0 ≡ 0) where
  one_more : count_by (λ byte. eqb byte 1) (set t i 1) ≡ end + 1
  one_more = let s = sum_by-set one t i 1 0 l in let z = ap one e in omega (arith, x.count)

  pub room : end < length q
  room =
      let c = count_by-le-length (λ byte. eqb byte 1) (set t i 1) in
      omega (arith, one_more, length-set t i 1, x.words)

  new_word : get_or (set q end i) end 0 ≡ i
  new_word = get_or-set_same q end i 0 room

  old_word : (j : ℕ) → j ≢ end → get_or (set q end i) j 0 ≡ get_or q j 0
  old_word j ne = get_or-set_other q end j i 0 ne

  binary : (k : ℕ) → Dec (k ≡ i) → get_or (set t i 1) k 0 ≤ 1
  binary k (yes h) = let s = get_or-set_same t i 1 0 l in rw h (omega arith)
  binary k (no ne) = rw (get_or-set_other t i k 1 0 ne) (x.binary k)

  marked : (j : ℕ) → j < end + 1 → Dec (j ≡ end) → get_or (set t i 1) (get_or (set q end i) j 0) 0 ≡ 1
  marked j h (yes f) = rw (f, new_word) (get_or-set_same t i 1 0 l)
  marked j h (no ne) = rw (old_word j ne) (set_marked t i (get_or q j 0) l (λ _. x.marked j (omega arith)))

  held : (k : ℕ) → (k ≡ i) ⊎ (get_or t k 0 ≡ 1) → ∥ ((j : ℕ) × (j < end + 1) × (get_or (set q end i) j 0 ≡ k)) ∥₁
  held k (inl h) = ∣ (end, omega arith, new_word ∙ sym h) ∣₁
  held k (inr h) = ∥∥₁_map (x.held k h) (λ (y : (j : ℕ) × (j < end) × (get_or q j 0 ≡ k)). (y.0, omega (arith, y.1), old_word y.0 (omega (arith, y.1)) ∙ y.2))

  -- the word behind those that count
  pub word_written : Queued t (set q end i) end head
  word_written = record {
    few = x.few;
    words = length-set q end i ∙ x.words;
    binary = x.binary;
    count = x.count;
    marked = λ j h. rw (old_word j (omega arith)) (x.marked j h);
    held = λ k h. ∥∥₁_map (x.held k h) (λ (y : (j : ℕ) × (j < end) × (get_or q j 0 ≡ k)). (y.0, y.1, old_word y.0 (omega (arith, y.1)) ∙ y.2));
    reached = x.reached;
  }

  pub queued_mark : Queued (set t i 1) (set q end i) (end + 1) head
  queued_mark = record {
    few = rw (length-set t i 1) x.few;
    words = rw (length-set t i 1, length-set q end i) x.words;
    binary = λ k. binary k (ℕ_discrete k i);
    count = one_more;
    marked = λ j h. marked j h (ℕ_discrete j end);
    held = λ k h. held k (was_marked t i k h);
    reached = omega (arith, x.reached);
  }

pub grown_both : {a b c : Marks} → Grown a b → Grown b c → Grown a c
grown_both {a} {b} {c} x y = record {
  lent = (y.lent.0 ∙ x.lent.0, y.lent.1 ∙ x.lent.1);
  bytes = y.bytes ∙ x.bytes;
  head = y.head ∙ x.head;
  more = omega (arith, x.more, y.more);
  keeps = λ i h. y.keeps i (x.keeps i h);
  front = λ j h. y.front j (omega (arith, x.more)) ∙ x.front j h;
}

-- an allowed pair is marked
pub sound_mark : {n : Net} (ok : Conditions n) {m after : Marks} {c d : ℕ} → Sound n m → Allowed n c d → after.table.now ≡ set m.table.now (position n c d) 1 → Grown m after → Sound n after × (get_or after.table.now (position n c d) 0 ≡ 1)
sound_mark {n} ok {m} {after} {c} {d} x a t g = (
  record { bytes = g.bytes ∙ x.bytes; allowed = λ k h. allowed k (was_marked m.table.now (position n c d) k (rw t at h)) },
  rw t (get_or-set_same m.table.now (position n c d) 1 0 (omega (arith, allowed_below n ok a, x.bytes))),
)
  where
    allowed : (k : ℕ) → (k ≡ position n c d) ⊎ (get_or m.table.now k 0 ≡ 1) → Allowed n (k / n.places) (k % n.places)
    allowed k (inl h) = let i = allowed_inside n ok a in rw (h, channel_of n ok c d i.place, place_of n ok c d i.place) a
    allowed k (inr h) = x.allowed k h

pub entered_more : {n : Net} (ok : Conditions n) (m after : Marks) (c d : ℕ) → d < n.places → Entered n m (position n c d) → ((k : ℕ) → get_or m.table.now k 0 ≡ 1 → get_or after.table.now k 0 ≡ 1) → (n.entry c d ≡ true → get_or after.table.now (position n c d) 0 ≡ 1) → Entered n after (position n c (d + 1))
entered_more {n} ok m after c d l x keeps here = λ k h. all k (omega arith)
  where
    all : (k : ℕ) → k < position n c d + 1 → n.entry (k / n.places) (k % n.places) ≡ true → get_or after.table.now k 0 ≡ 1
    all =
        below_more (λ k. n.entry (k / n.places) (k % n.places) ≡ true → get_or after.table.now k 0 ≡ 1) (position n c d) (λ k h e. keeps k (x k h e))
        (rw (channel_of n ok c d l, place_of n ok c d l) here)

-- the next entry of a channel is found by a search over its places
pub entry_found : (n : Net) (c from end : ℕ) → end ≡ n.places → (r : Option ℕ) → MatchOption r ((k : ℕ) → from ≤ k → k < end → n.entry c k ≡ false) (λ d. (from ≤ d) × (d < end) × (n.entry c d ≡ true) × ((k : ℕ) → from ≤ k → k < d → n.entry c k ≡ false)) → MatchOption r (NoEntry n c from n.places) (λ d. (from ≤ d) × (d < n.places) × (n.entry c d ≡ true) × NoEntry n c from d)
entry_found n c from end e r m = rw (← e) m

-- pairs that are no entries need no mark
pub entered_past : {n : Net} (ok : Conditions n) (m : Marks) (c from to : ℕ) → to ≤ n.places → NoEntry n c from to → Entered n m (position n c from) → Entered n m (position n c to)
entered_past {n} ok m c from to l none x = λ k h e. go k h e (cases_lt k (position n c from))
  where
    go : (k : ℕ) → k < position n c to → n.entry (k / n.places) (k % n.places) ≡ true → (k < position n c from) ⊎ (position n c from ≤ k) → get_or m.table.now k 0 ≡ 1
    go k h e (inl b) = x k b e
    go k h e (inr b) =
        let d = k - position n c 0 in
        let at : k ≡ position n c d = omega arith in
        let i : d < n.places = omega arith in
        let f = none d (omega arith) (omega arith) in
        absurd (cc (f, rw (at, channel_of n ok c d i, place_of n ok c d i) at e))

-- the pair that the way leads to that a loop over ways is given
pub way_allowed : {n : Net} {c d h : ℕ} → Allowed n c d → n.home c d ≡ false → {all left : List ℕ} (rest : List ℕ) → all ≡ n.ways c d → (ys : List ℕ) → Yields (YieldsFirst (λ (ways : List ℕ). ways)) all ys left → left ≡ h ∷ rest → Allowed n h d
way_allowed {n} {c} {d} {h} a away {all} {left} rest start ys y step =
    let road = YieldsList-from_first (λ (x : ℕ). x) (λ (ways : List ℕ). ways) (n.ways c d) start in
    let turn = YieldsList-turn road ys left y (Some h) rest h refl step in
    moves a away (length ys, turn.0, turn.1 ∙ get_or_default (n.ways c d) (length ys) h 0 turn.0)

pub all_marked_more : (n : Net) (m after : Marks) (hs : List ℕ) (h d : ℕ) → AllMarked n m hs d → Grown m after → get_or after.table.now (position n h d) 0 ≡ 1 → AllMarked n after (hs ++ h ∷ []) d
all_marked_more n m after hs h d x g here =
    All-push (λ c. get_or after.table.now (position n c d) 0 ≡ 1) hs h
    (All-weaker (λ c. get_or m.table.now (position n c d) 0 ≡ 1) (λ c. get_or after.table.now (position n c d) 0 ≡ 1) (λ c k. g.keeps (position n c d) k) hs x)
    here

-- the first pair of the queue that was not taken
module _ {n : Net} {m next after : Marks} {i : ℕ} (taken : Taken m next (Some i)) (x : Followed n m) (s : Sound n after) (g : Grown next after) (p : Passed n after i) where
  keeps : (k : ℕ) → get_or m.table.now k 0 ≡ 1 → get_or after.table.now k 0 ≡ 1
  keeps k h = g.keeps k (rw taken.2 h)

  keeps_passed : (i : ℕ) → Passed n m i → Passed n after i
  keeps_passed i y away =
      All-weaker (λ c. get_or m.table.now (position n c (i % n.places)) 0 ≡ 1) (λ c. get_or after.table.now (position n c (i % n.places)) 0 ≡ 1) (λ c k. keeps (position n c (i % n.places)) k) (n.ways (i / n.places) (i % n.places)) (y away)

  passed : (j : ℕ) → j < m.head + 1 → Dec (j ≡ m.head) → Passed n after (get_or m.queue.now j 0)
  passed j h (yes e) = rw (e, ← taken.1) p
  passed j h (no ne) = keeps_passed (get_or m.queue.now j 0) (x.passed j (omega arith))

  pub followed_more : Followed n after
  followed_more = record {
    sound = s;
    entered = λ i k e. keeps i (x.entered i k e);
    passed = λ j h. let k : j < m.head + 1 = omega (arith, g.head, taken.5) in rw (g.front j (rw (taken.4) (omega (arith, taken.0))), ap (λ (q : MutBor (List ℕ)). q.now) taken.3) (passed j k (ℕ_discrete j m.head));
  }

-- all are taken: the marked pairs are the allowed pairs
module _ {n : Net} (ok : Conditions n) {m : Marks} (x : Followed n m) (all : m.head ≡ m.end) where
  allowed_marked : {c d : ℕ} → Allowed n c d → get_or m.table.now (position n c d) 0 ≡ 1
  allowed_marked {c} {d} (enters e) =
      let i = allowed_inside n ok (enters e) in
      x.entered (position n c d) (position_below n ok c d i.channel i.place) (rw (channel_of n ok c d i.place, place_of n ok c d i.place) e)
  allowed_marked {c = h} {d} (moves {c = c} a away w) =
      let i = allowed_inside n ok a in
      ∥∥₁_elim (m.queued.held (position n c d) (allowed_marked a)) (ℕ_set _ _) (λ (y : (j : ℕ) × (j < m.end) × (get_or m.queue.now j 0 ≡ position n c d)).
      let z = rw (y.2, channel_of n ok c d i.place, place_of n ok c d i.place) at (x.passed y.0 (omega (arith, y.1))) in
      rw w.2 (All-get_or (λ b. get_or m.table.now (position n b d) 0 ≡ 1) (n.ways c d) w.0 0 w.1 (z away)))

  pub tells : (c d : ℕ) → c < n.channels → d < n.places → Tells (Allowed n c d) (get_or m.table.now (position n c d) 0)
  tells c d l k = go (ℕ_discrete (get_or m.table.now (position n c d) 0) 1)
    where
      go : Dec (get_or m.table.now (position n c d) 0 ≡ 1) → Tells (Allowed n c d) (get_or m.table.now (position n c d) 0)
      go (no z) = let b = m.queued.binary (position n c d) in inr ((λ a. z (allowed_marked a)), omega arith)
      go (yes o) = inl (rw (channel_of n ok c d k, place_of n ok c d k) at (x.sound.allowed (position n c d) o), o)

  pub traced : (before t : List ℕ) → length before ≡ pairs n → t ≡ m.table.now → Traced n before t m.end
  traced before t b e = record {
    bytes = λ c d l k. rw e (tells c d l k);
    beyond = λ i l. get_or_past t i 0 (omega (arith, ap length e, x.sound.bytes)) ∙ sym (get_or_past before i 0 (omega arith));
    count = sym (ap (count_by (λ byte. eqb byte 1)) (take_all (pairs n) t (omega (arith, ap length e, x.sound.bytes)) ∙ e) ∙ m.queued.count);
  }

pub rooms_suffice : (n : Net) (table : List ℕ) (work : ℕ) → pairs n ≤ length table → pairs n ≤ work → first_short (rooms n table work) ≡ None
rooms_suffice n table work l m = rw (le-ltb (length table) (pairs n) l, le-ltb work (pairs n) m) refl
