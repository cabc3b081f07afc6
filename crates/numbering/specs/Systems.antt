-- Release systems.
use Rattle.std.specs.Prelude.{◌≡◌, ℕ, ◌<◌, ◌≤◌, Bool, true, List, None, length, slice_index}
use Rattle.networks.specs.Nets.{most_ways}
use Rattle.numbering.specs.declared.Label.{Label}

-- What a release system is: how many items it has, how many slots each item has, whether a slot of an item holds a need, the
-- items by any of which that need is met (its ways), and what each item stands for (its label).
pub record System : Type 0 where
  pub items : ℕ
  pub slots : ℕ
  pub need : ℕ → ℕ → Bool
  pub ways : ℕ → ℕ → List ℕ
  pub label : ℕ → Label

-- how many items a system has at most, and how many slots an item
abbrev pub most_items : ℕ
most_items = 262144

abbrev pub most_slots : ℕ
most_slots = 256

-- the label of an item out of range
abbrev pub no_label : Label
no_label = record { channel = 0; place = None }

-- What every release system shows of its meaning.
pub record Conditions (s : System) : Type 0 where
  pub some_item : 1 ≤ s.items
  pub few_items : s.items ≤ most_items
  pub few_slots : s.slots ≤ most_slots
  pub few_ways : (i j : ℕ) → length (s.ways i j) ≤ most_ways
  pub ways_inside : (i j k : ℕ) → k < length (s.ways i j) → slice_index (s.ways i j) k < s.items
  pub need_inside : (i j : ℕ) → s.need i j ≡ true → (i < s.items) × (j < s.slots)
  pub label_outside : (i : ℕ) → s.items ≤ i → s.label i ≡ no_label

-- item h is one of the ways of the need that item i has at slot j
abbrev pub Way : System → ℕ → ℕ → ℕ → Type 0
Way s i j h = (k : ℕ) × (k < length (s.ways i j)) × (h ≡ slice_index (s.ways i j) k)
