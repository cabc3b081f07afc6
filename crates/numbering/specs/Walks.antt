-- Walks along the needs of a release system, depth first. A word that is neither a number nor that of held items says whether a
-- walk came to the item: if so, it stands on the path of the walk until it is settled. Private functions alone cite what is here.
use Rattle.std.specs.Prelude.{◌≡◌, ◌≢◌, ℕ, suc, ◌+◌, ◌-◌, ◌<◌, ◌≤◌, ◌⊎◌, Bool, true, List, length, slice_index, count_by, nat_eq}
use Rattle.numbering.specs.Systems.{System, Way}
use Rattle.numbering.specs.Numbers.{held_number}
use Rattle.numbering.specs.Rounds.{Met, Listed}
use Rattle.numbering.specs.declared.walks.Look.{Look}
use Rattle.numbering.specs.declared.walks.Walk.{Walk}
use Rattle.numbering.specs.declared.walks.Look.TheVariants as look

-- the word of an item to which no walk came
abbrev pub fresh : ℕ
fresh = 4294967294

-- the word of an item on the path
abbrev pub entered : ℕ
entered = 4294967293

-- the word of one that is the only way of a need of the item before it
abbrev pub forced : ℕ
forced = 4294967292

-- The word is a number or that of held items.
abbrev pub Fixed : ℕ → Type 0
Fixed word = forced ≤ word → word ≡ held_number

-- The word is that of an item on the path.
abbrev pub OnPath : ℕ → Type 0
OnPath word = (forced ≤ word) × (word ≤ entered)

-- The slot holds a need. All its ways are settled, and none has a number that is smaller than n by more than 1.
abbrev pub Bounds : System → (ℕ → ℕ) → ℕ → ℕ → ℕ → Type 0
Bounds s number i n j = (s.need i j ≡ true) × ((h : ℕ) → Way s i j h → (n ≤ suc (number h)) × Fixed (number h))

-- Each need of the item has a way with a number below n, and one need, unless n is 0, bounds it by n.
pub record Earned (s : System) (number : ℕ → ℕ) (i n : ℕ) : Type 0 where
  pub low : n ≤ forced
  pub each : (j : ℕ) → Met s number i n j
  pub last : (n ≡ 0) ⊎ ((j : ℕ) × Bounds s number i n j)

-- The slot holds a need, and all its ways are held.
abbrev pub Stuck : System → (ℕ → ℕ) → ℕ → ℕ → Type 0
Stuck s number i j = (s.need i j ≡ true) × ((h : ℕ) → Way s i j h → number h ≡ held_number)

-- The slot holds a need, and item h is its one way.
abbrev pub OneWay : System → ℕ → ℕ → ℕ → Type 0
OneWay s i j h = (s.need i j ≡ true) × Way s i j h × ((k : ℕ) → Way s i j k → k ≡ h)

-- The slot holds a need with a way that is not settled: item h, its one way if `only`.
pub record Waiting (s : System) (number : ℕ → ℕ) (i j h : ℕ) (only : Bool) : Type 0 where
  pub need : s.need i j ≡ true
  pub way : Way s i j h
  pub unsettled : Fixed (number h) → ⊥
  pub one : only ≡ true → OneWay s i j h

-- What one slot of an item says of its number.
abbrev pub LooksAt : System → (ℕ → ℕ) → ℕ → ℕ → Look → Type 0
LooksAt s number i j (look.Number n) = (n ≤ forced) × Met s number i n j × ((n ≡ 0) ⊎ Bounds s number i n j)
LooksAt s number i j look.Held = Stuck s number i j
LooksAt s number i j (look.Waits h only) = Waiting s number i j h only

-- What the slots of an item say of its number.
abbrev pub Looks : System → (ℕ → ℕ) → ℕ → Look → Type 0
Looks s number i (look.Number n) = Earned s number i n
Looks s number i look.Held = (j : ℕ) × Stuck s number i j
Looks s number i (look.Waits h only) = (j : ℕ) × Waiting s number i j h only

-- The walks so far. No item before `next` is one that no walk came to. Each settled item has its number, which is below the bound, or
-- is held for good. The `depth` first items of the list are the path, and no other item is on it.
pub record Walking (s : System) (number : ℕ → ℕ) (path : List ℕ) (next depth bound : ℕ) : Type 0 where
  pub near : next ≤ s.items
  pub room : depth ≤ length path
  pub few : bound ≤ s.items
  pub given : (bound ≡ 0) ⊎ ((i : ℕ) × (i < s.items) × (suc (number i) ≡ bound))
  pub word : (i : ℕ) → i < s.items → number i ≤ held_number
  pub begun : (i : ℕ) → i < next → number i ≢ fresh
  pub numbered : (i : ℕ) → i < s.items → number i < forced → (number i < bound) × Earned s number i (number i)
  pub held : (i : ℕ) → i < s.items → number i ≡ held_number → (j : ℕ) × Stuck s number i j
  pub inside : (p : ℕ) → p < depth → slice_index path p < s.items
  pub on_path : (p : ℕ) → p < depth → OnPath (number (slice_index path p))
  pub listed : (i : ℕ) → i < s.items → OnPath (number i) → Listed path 0 depth i
  pub distinct : (p q : ℕ) → p < q → q < depth → slice_index path p ≢ slice_index path q
  pub linked : (p q : ℕ) → suc p ≡ q → q < depth → number (slice_index path q) ≡ forced → (j : ℕ) × OneWay s (slice_index path p) j (slice_index path q)

-- how many items no walk came to
abbrev pub count_fresh : List ℕ → ℕ
count_fresh numbers = count_by (λ word. nat_eq word fresh) numbers

-- Where the walks stand. The bound, the items on the path and those that no walk came to make together no more than all items, since
-- each number below the bound is that of some item.
pub record WalkingAt (s : System) (numbers path : List ℕ) (w : Walk) : Type 0 where
  pub walking : Walking s (slice_index numbers) path w.next w.depth w.bound
  pub spare : w.bound + w.depth + count_fresh numbers ≤ s.items

-- how many steps are left at most: each item is passed, goes onto the path and leaves it
abbrev pub steps_left : System → List ℕ → Walk → ℕ
steps_left s numbers w = (s.items - w.next) + (w.depth + (count_fresh numbers + count_fresh numbers))

-- A step of the walks.
pub record Stepped (s : System) (before after path : List ℕ) (from to : Walk) : Type 0 where
  pub at : WalkingAt s after path to
  pub fewer : steps_left s after to < steps_left s before from

-- The way stands on the path at a position, and all items behind it are forced.
pub record Circle (number : ℕ → ℕ) (path : List ℕ) (way from : ℕ) : Type 0 where
  pub inside : from < length path
  pub here : slice_index path from ≡ way
  pub behind : (p : ℕ) → from < p → p < length path → number (slice_index path p) ≡ forced

-- The first items of the list are held, and the words of the others stay.
pub record AllHeld (before after : ℕ → ℕ) (items : List ℕ) (count : ℕ) : Type 0 where
  pub all : (p : ℕ) → p < count → after (slice_index items p) ≡ held_number
  pub others : (i : ℕ) → (after i ≡ before i) ⊎ (Listed items 0 count i × (after i ≡ held_number))
