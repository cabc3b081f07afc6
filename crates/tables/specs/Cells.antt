-- The cells of a table, one for each pair.
use Rattle.std.specs.Prelude.{ℕ, ◌+◌, ◌*◌, ◌<◌, ◌≤◌, Bool, true, false, cond, ◌&&◌, List, [], ◌∷◌, ◌++◌, length, All, nat_lt, slice_index_or}
use Rattle.networks.specs.Nets.{Net, most_ways}
use Rattle.tables.specs.declared.cell.Cell.{Cell}

abbrev pub blank : Cell
blank = record { entry = false; home = false; ways = [] }

-- the cell with one way more
abbrev pub with_way : Cell → ℕ → Cell
with_way x h = record { entry = x.entry; home = x.home; ways = x.ways ++ (h ∷ []) }

abbrev pub as_entry : Cell → Cell
as_entry x = record { entry = true; home = x.home; ways = x.ways }

abbrev pub as_home : Cell → Cell
as_home x = record { entry = x.entry; home = true; ways = x.ways }

-- At most as many ways as there may be, each below the number of channels.
pub record Sound (channels : ℕ) (x : Cell) : Type 0 where
  pub few : length x.ways ≤ most_ways
  pub inside : All (λ h. h < channels) x.ways

abbrev pub inside : ℕ → ℕ → ℕ → ℕ → Bool
inside channels places c d = nat_lt c channels && nat_lt d places

abbrev pub cell_of : ℕ → List Cell → ℕ → ℕ → Cell
cell_of places cells c d = slice_index_or cells (c * places + d) blank

-- what the cell of a pair says, or what is said of every pair outside
abbrev pub look : {X : Type 0} → (Cell → X) → X → ℕ → ℕ → List Cell → ℕ → ℕ → X
look says other channels places cells c d = cond (inside channels places c d) (says (cell_of places cells c d)) other

-- the network that the cells hold
abbrev pub net_of : ℕ → ℕ → List Cell → Net
net_of channels places cells =
    record {
      channels = channels;
      places = places;
      entry = look (λ x. x.entry) false channels places cells;
      home = look (λ x. x.home) false channels places cells;
      ways = look (λ x. x.ways) [] channels places cells;
    }
