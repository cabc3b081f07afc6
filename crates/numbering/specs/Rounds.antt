-- The rounds of a numbering. Round r gives the number r to each open item whose needs all have a way with a smaller number. The
-- word of an open item is the number that held items get, less the count of its slots that were passed.
use Rattle.std.specs.Prelude.{◌≡◌, ℕ, suc, ◌+◌, ◌<◌, ◌≤◌, ◌⊎◌, Bool, true, List, slice_index, MatchBool}
use Rattle.numbering.specs.Systems.{System, Way}
use Rattle.numbering.specs.Numbers.{held_number}

-- The slot is empty, or a way of its need has a number below r.
abbrev pub Met : System → (ℕ → ℕ) → ℕ → ℕ → ℕ → Type 0
Met s number i r j = s.need i j ≡ true → (h : ℕ) × Way s i j h × (number h < r)

-- The slot holds a need, and no way of it has a number below r.
abbrev pub Unmet : System → (ℕ → ℕ) → ℕ → ℕ → ℕ → Type 0
Unmet s number i r j = (s.need i j ≡ true) × ((h : ℕ) → Way s i j h → r ≤ number h)

-- The slots before `to` are met, from `from` on, and that at `to` is not, unless it is the end.
pub record Passed (s : System) (number : ℕ → ℕ) (i r from to : ℕ) : Type 0 where
  pub onward : from ≤ to
  pub inside : to ≤ s.slots
  pub met : (j : ℕ) → from ≤ j → j < to → Met s number i r j
  pub stop : to < s.slots → Unmet s number i r to

-- The item was numbered before round r: each of its needs has a way with a smaller number, and one, unless the number is 0, has
-- none with a number that is smaller by more than 1.
pub record Done (s : System) (number : ℕ → ℕ) (r i : ℕ) : Type 0 where
  pub early : number i < r
  pub each : (j : ℕ) → Met s number i (number i) j
  pub last : (number i ≡ 0) ⊎ ((j : ℕ) × (s.need i j ≡ true) × ((h : ℕ) → Way s i j h → number i ≤ suc (number h)))

-- The item was not numbered before round r.
pub record Open (s : System) (number : ℕ → ℕ) (r i : ℕ) : Type 0 where
  pub inside : i < s.items
  pub few : held_number ≤ number i + s.slots
  pub word : number i ≤ held_number
  pub passed : (j : ℕ) → number i + j < held_number → Met s number i r j
  pub last : (r ≡ 0) ⊎ ((j : ℕ) × (s.need i j ≡ true) × ((h : ℕ) → Way s i j h → r ≤ suc (number h)))

-- The item stands in the list, from position `from` on and before `to`.
abbrev pub Listed : List ℕ → ℕ → ℕ → ℕ → Type 0
Listed list from to i = (j : ℕ) × (from ≤ j) × (j < to) × (slice_index list j ≡ i)

-- In round r, `position` of the `end` first items of the list were looked at, and the first `kept` are those of them that are still open.
pub record Midway (s : System) (number : ℕ → ℕ) (list : List ℕ) (r kept position end : ℕ) : Type 0 where
  pub behind : kept ≤ position
  pub ahead : position ≤ end
  pub kept_open : (j : ℕ) → j < kept → Open s number (suc r) (slice_index list j)
  pub rest_open : (j : ℕ) → position ≤ j → j < end → Open s number r (slice_index list j)
  pub rising_kept : (j k : ℕ) → j < k → k < kept → slice_index list j < slice_index list k
  pub rising_over : (j k : ℕ) → j < kept → position ≤ k → k < end → slice_index list j < slice_index list k
  pub rising_rest : (j k : ℕ) → position ≤ j → j < k → k < end → slice_index list j < slice_index list k
  pub cover : (i : ℕ) → i < s.items → Done s number (suc r) i ⊎ (Listed list 0 kept i ⊎ Listed list position end i)
  pub none : kept ≡ position → (i : ℕ) → i < s.items → number i ≡ r → ⊥
  pub some : kept < position → (i : ℕ) × (i < s.items) × (number i ≡ r)
  pub last : (r ≡ 0) ⊎ ((i : ℕ) × (i < s.items) × (suc (number i) ≡ r))

-- Before round r the list has the open items, in rising order, and no other. The round before numbered some item.
pub record Listing (s : System) (number : ℕ → ℕ) (list : List ℕ) (r end : ℕ) : Type 0 where
  pub all_open : (j : ℕ) → j < end → Open s number r (slice_index list j)
  pub rising : (j k : ℕ) → j < k → k < end → slice_index list j < slice_index list k
  pub cover : (i : ℕ) → i < s.items → Done s number r i ⊎ Listed list 0 end i
  pub last : (r ≡ 0) ⊎ ((i : ℕ) × (i < s.items) × (suc (number i) ≡ r))

-- What the rounds come to: no item was numbered in the last.
pub record Finished (s : System) (number : ℕ → ℕ) (r : ℕ) : Type 0 where
  pub good : (i : ℕ) → i < s.items → Done s number r i ⊎ Open s number (suc r) i
  pub few : r ≤ s.items
  pub some : (r ≡ 0) ⊎ ((i : ℕ) × (i < s.items) × (suc (number i) ≡ r))

-- The number of an open item after it was looked at in round r; those of the others stay.
pub record Settled (s : System) (before after : ℕ → ℕ) (r i : ℕ) (numbered : Bool) : Type 0 where
  pub others : (h : ℕ) → (h ≡ i → ⊥) → after h ≡ before h
  pub late : r ≤ after i
  pub state : MatchBool numbered (Done s after (suc r) i × (after i ≡ r)) (Open s after (suc r) i)

-- A word from `rounds` on becomes the number that held items get, and one below stays.
abbrev pub Closed : ℕ → List ℕ → List ℕ → ℕ → Type 0
Closed rounds before after i = (slice_index before i < rounds → slice_index after i ≡ slice_index before i) × (rounds ≤ slice_index before i → slice_index after i ≡ held_number)
