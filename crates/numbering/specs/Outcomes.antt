-- What numbering a release system gives.
use Rattle.std.specs.Prelude.{◌≡◌, ℕ, ◌<◌, ◌≤◌, ◌⊎◌, Bool, true, not, ◌&&◌, List, [], ◌∷◌, length, take, Some, None, Ok, Err, Result, count_by, nat_eq, nat_lt, slice_index}
use Rattle.networks.specs.Cleared.{AllZero}
use Rattle.networks.specs.Rooms.{Room, first_short}
use Rattle.networks.specs.declared.faults.Buffer.{Buffer}
use Rattle.networks.specs.declared.faults.Buffer.TheVariants as buffer
use Rattle.networks.specs.declared.faults.StudyFault.{StudyFault}
use Rattle.networks.specs.declared.faults.StudyFault.TheVariants.{Short}
use Rattle.numbering.specs.Systems.{System, most_items, most_slots}
use Rattle.numbering.specs.Numbers.{Sound, HeldSet, Held, AllNumbered, Below, held_number}
use Rattle.numbering.specs.declared.Numbering.{Numbering}

-- m is the greatest number given to an item that is not held, or 0 where there is none.
pub record Greatest (s : System) (number : ℕ → ℕ) (m : ℕ) : Type 0 where
  pub none_above : (i : ℕ) → i < s.items → (number i ≡ held_number → ⊥) → number i ≤ m
  pub given : (m ≡ 0) ⊎ ((i : ℕ) × (i < s.items) × (number i ≡ held_number → ⊥) × (number i ≡ m))

-- how many of the first words are the number that held items get
abbrev pub count_held : ℕ → List ℕ → ℕ
count_held items numbers = count_by (λ word. nat_eq word held_number) (take items numbers)

-- the items that are not held, by their numbers
abbrev pub numbered_items : System → (ℕ → ℕ) → ℕ → Bool
numbered_items s number i = nat_lt i s.items && not (nat_eq (number i) held_number)

-- the held items, by their numbers
abbrev pub held_items : System → (ℕ → ℕ) → ℕ → Bool
held_items s number i = nat_lt i s.items && nat_eq (number i) held_number

-- The items have the numbers that are defined, and no other numbers are. The number of an item that is not held is below the
-- count of items, and so is the greatest. They are a sound numbering of the items that are not held: of each that lies in no held set.
-- All held items together are a held set. A sound numbering of any set of items numbers none that is held, and none with a smaller
-- number. What lies beyond the items is as it was. A system keeps its limits, and no more items are held than there are.
pub record Outcome (s : System) (before after : List ℕ) (a : Numbering) : Type 0 where
  pub all : AllNumbered s (slice_index after)
  pub only : (other : ℕ → ℕ) → AllNumbered s other → (i : ℕ) → i < s.items → other i ≡ slice_index after i
  pub below : Below s (slice_index after)
  pub sound : Sound s (numbered_items s (slice_index after)) (slice_index after)
  pub whole : (i : ℕ) → i < s.items → (Held s i → ⊥) → numbered_items s (slice_index after) i ≡ true
  pub held_set : HeldSet s (held_items s (slice_index after))
  pub least : (set : ℕ → Bool) (other : ℕ → ℕ) → ((i : ℕ) → set i ≡ true → i < s.items) → Sound s set other → (i : ℕ) → set i ≡ true → (Held s i → ⊥) × (slice_index after i ≤ other i)
  pub beyond : (k : ℕ) → s.items ≤ k → slice_index after k ≡ slice_index before k
  pub greatest : Greatest s (slice_index after) a.greatest
  pub held : a.held ≡ count_held s.items after
  pub bounds : (a.greatest < s.items) × (a.held ≤ s.items) × (s.items ≤ most_items) × (s.slots ≤ most_slots)

-- The buffers that a numbering is lent: a word for each item in both.
abbrev pub rooms : System → ℕ → ℕ → List Room
rooms s numbers work = record { buffer = buffer.Numbers; needed = s.items; given = numbers } ∷ (record { buffer = buffer.Work; needed = s.items; given = work } ∷ [])

-- The numbering, or the first buffer that is too short, and then the numbers are as they were.
abbrev pub Numbers : System → List ℕ → ℕ → Result Numbering StudyFault → List ℕ → Type 0
Numbers s before work (Ok a) after = (first_short (rooms s (length before) work) ≡ None) × Outcome s before after a
Numbers s before work (Err f) after = (b : Buffer) × (first_short (rooms s (length before) work) ≡ Some b) × (f ≡ Short b) × (after ≡ before)

-- What a numbering leaves: its answer, and what stands in the numbers and in the work area.
pub record Left : Type 0 where
  pub answer : Result Numbering StudyFault
  pub numbers : List ℕ
  pub work : List ℕ

-- Numbering may leave this of numbers and a work area with these words. Lent buffers keep their lengths.
pub record Leaves (s : System) (numbers work : List ℕ) (x : Left) : Type 0 where
  pub numbering : Numbers s numbers (length work) x.answer x.numbers
  pub cleared : AllZero x.work
  pub each : length x.numbers ≡ length numbers
  pub words : length x.work ≡ length work
