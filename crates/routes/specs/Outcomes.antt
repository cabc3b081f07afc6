-- What routes through a network gives.
use Rattle.std.specs.Prelude.{◌≡◌, ℕ, ◌*◌, List, [], ◌∷◌, length, Some, None, Ok, Err, Result, Decides, slice_index}
use Rattle.networks.specs.Nets.{Net, Inside, most_channels, most_places}
use Rattle.networks.specs.Allowed.{Allowed, pairs, position, said}
use Rattle.networks.specs.Cleared.{AllZero}
use Rattle.networks.specs.Rooms.{Room, first_short}
use Rattle.networks.specs.declared.faults.Buffer.{Buffer}
use Rattle.networks.specs.declared.faults.Buffer.TheVariants as buffer
use Rattle.networks.specs.declared.faults.StudyFault.{StudyFault}
use Rattle.networks.specs.declared.faults.StudyFault.TheVariants.{Short}
use Rattle.tracing.specs.Traces.{Traced}
use Rattle.numbering.specs.Systems.{most_items, most_slots}
use Rattle.numbering.specs.Numbers.{held_number}
use Rattle.numbering.specs.Outcomes.{Outcome}
use Rattle.numbering.specs.declared.Numbering.{Numbering}
use Rattle.routes.specs.Routing.{route, Longest, Endless}
use Rattle.routes.specs.declared.outcome.Routes.{Routes}

-- the number of a pair
abbrev pub number_of : Net → List ℕ → ℕ → ℕ → ℕ
number_of n numbers c d = slice_index numbers (position n c d)

-- The table tells which pairs are allowed, and the numbers are those of the release system of pairs. A pair that is not held has
-- the number of moves of its longest route, and no other number is that. From one that is held a packet can circle or run dry, and
-- from no other pair. A pair that is not allowed has the number 0. A release system may have as many items as the largest network has pairs,
-- and an item as many slots as it has places.
pub record Routed (n : Net) (allowed allowed' numbers numbers' : List ℕ) (a : Routes) : Type 0 where
  pub traced : (ones : ℕ) × Traced n allowed allowed' ones
  pub numbered : (numbering : Numbering) × Outcome (route n (said allowed')) numbers numbers' numbering × (a.held ≡ numbering.held)
  pub longest : (c d : ℕ) → Inside n c d → (number_of n numbers' c d ≡ held_number → ⊥) → Longest n c d (number_of n numbers' c d)
  pub one_longest : (c d k : ℕ) → Inside n c d → (number_of n numbers' c d ≡ held_number → ⊥) → Longest n c d k → k ≡ number_of n numbers' c d
  pub unreached : (c d : ℕ) → Inside n c d → (Allowed n c d → ⊥) → number_of n numbers' c d ≡ 0
  pub endless : (c d : ℕ) → Inside n c d → number_of n numbers' c d ≡ held_number → Endless n c d
  pub ends : (c d : ℕ) → Inside n c d → (number_of n numbers' c d ≡ held_number → ⊥) → Endless n c d → ⊥
  pub limits : (most_items ≡ most_channels * most_places) × (most_slots ≡ most_places)
  pub arriving : Decides a.arriving ((c d : ℕ) → Inside n c d → number_of n numbers' c d ≡ held_number → ⊥)

-- The buffers that are lent: for each pair a byte, a word for its number, and a word of work.
abbrev pub rooms : Net → ℕ → ℕ → ℕ → List Room
rooms n allowed numbers work =
    record { buffer = buffer.Allowed; needed = pairs n; given = allowed }
    ∷ (record { buffer = buffer.Numbers; needed = pairs n; given = numbers } ∷ (record { buffer = buffer.Work; needed = pairs n; given = work } ∷ []))

-- The routes, or the first buffer that is too short, and then the table and the numbers are as they were.
abbrev pub RoutesGive : Net → List ℕ → List ℕ → ℕ → Result Routes StudyFault → List ℕ → List ℕ → Type 0
RoutesGive n allowed numbers work (Ok a) allowed' numbers' =
    (first_short (rooms n (length allowed) (length numbers) work) ≡ None) × Routed n allowed allowed' numbers numbers' a
RoutesGive n allowed numbers work (Err f) allowed' numbers' =
    (b : Buffer) × (first_short (rooms n (length allowed) (length numbers) work) ≡ Some b) × (f ≡ Short b) × (allowed' ≡ allowed) × (numbers' ≡ numbers)

-- What routes leaves: its answer, and what stands in the buffers and in the work area.
pub record Left : Type 0 where
  pub answer : Result Routes StudyFault
  pub allowed : List ℕ
  pub numbers : List ℕ
  pub work : List ℕ

-- Routes may leave this of buffers and a work area that held these. Lent buffers keep their lengths.
pub record Leaves (n : Net) (allowed numbers work : List ℕ) (x : Left) : Type 0 where
  pub routes : RoutesGive n allowed numbers (length work) x.answer x.allowed x.numbers
  pub cleared : AllZero x.work
  pub bytes : length x.allowed ≡ length allowed
  pub each : length x.numbers ≡ length numbers
  pub words : length x.work ≡ length work
