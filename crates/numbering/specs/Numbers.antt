-- Numberings of release systems, held items, and the numbers that are defined.
use Rattle.std.specs.Prelude.{◌≡◌, ℕ, suc, ◌<◌, ◌≤◌, ◌⊎◌, Bool, true, false}
use Rattle.numbering.specs.Systems.{System, Way}

-- A numbering of a set of items is sound if every need of every item in the set has a way in the set with a smaller number.
abbrev pub Sound : System → (ℕ → Bool) → (ℕ → ℕ) → Type 0
Sound s set number = (i j : ℕ) → set i ≡ true → s.need i j ≡ true → (h : ℕ) × Way s i j h × (set h ≡ true) × (number h < number i)

-- A set is held if each of its items has a need whose ways all lie in the set.
abbrev pub HeldSet : System → (ℕ → Bool) → Type 0
HeldSet s set = (i : ℕ) → set i ≡ true → (j : ℕ) × (s.need i j ≡ true) × ((h : ℕ) → Way s i j h → set h ≡ true)

-- the item lies in a held set
abbrev pub Held : System → ℕ → Type 0
Held s i = (set : ℕ → Bool) × HeldSet s set × (set i ≡ true)

-- m is the smallest number among the ways of the need that item i has at slot j
pub record Smallest (s : System) (number : ℕ → ℕ) (i j m : ℕ) : Type 0 where
  pub some : (h : ℕ) × Way s i j h × (number h ≡ m)
  pub least : (h : ℕ) → Way s i j h → m ≤ number h

-- An item without needs has the number 0. Any other has the greatest, over its needs, of 1 plus the smallest number among that
-- need's ways.
pub data Equation (s : System) (number : ℕ → ℕ) (i : ℕ) : Type 0 where
  none : ((j : ℕ) → s.need i j ≡ false) → number i ≡ 0 → Equation s number i
  greatest : ((j : ℕ) → s.need i j ≡ true → (m : ℕ) × Smallest s number i j m × (suc m ≤ number i)) → (j m : ℕ) × (s.need i j ≡ true) × Smallest s number i j m × (suc m ≡ number i) → Equation s number i

-- the number that every held item gets
abbrev pub held_number : ℕ
held_number = 4294967295

-- An item that lies in no held set has the number of the equation. Every other has the number that held items get.
abbrev pub Numbered : System → (ℕ → ℕ) → ℕ → Type 0
Numbered s number i = ((Held s i → ⊥) × Equation s number i) ⊎ (Held s i × (number i ≡ held_number))

abbrev pub AllNumbered : System → (ℕ → ℕ) → Type 0
AllNumbered s number = (i : ℕ) → i < s.items → Numbered s number i

-- the number of an item that is not held is below the count of items
abbrev pub Below : System → (ℕ → ℕ) → Type 0
Below s number = (i : ℕ) → i < s.items → (Held s i → ⊥) → number i < s.items
