-- The network that a size and a list of records draw.
use Rattle.std.specs.Prelude.{ℕ, Bool, false, cond, ◌&&◌, ◌||◌, List, [], ◌∷◌, ◌++◌, ◌==◌}
use Rattle.std.specs.List.{flat_map, list_any}
use Rattle.records.specs.declared.Record.{Record}
use Rattle.records.specs.declared.Record.TheVariants.{Entry, Home, Way}
use Rattle.records.specs.declared.Size.{Size}
use Rattle.networks.specs.Nets.{Net}
use Rattle.networks.specs.declared.pairs.Pair.{Pair}

-- the pair that the record speaks of
abbrev pub pair_of : Record → Pair
pair_of (Entry c d) = record { channel = c; place = d }
pair_of (Home c d) = record { channel = c; place = d }
pair_of (Way c d h) = record { channel = c; place = d }

-- the record makes the pair (c, d) an entry
abbrev pub entry_by : Record → ℕ → ℕ → Bool
entry_by (Entry a b) c d = a == c && b == d
entry_by (Home a b) c d = false
entry_by (Way a b h) c d = false

-- the record makes the pair (c, d) home
abbrev pub home_by : Record → ℕ → ℕ → Bool
home_by (Entry a b) c d = false
home_by (Home a b) c d = a == c && b == d
home_by (Way a b h) c d = false

-- the way that the record adds to the pair (c, d), if it adds one
abbrev pub way_by : Record → ℕ → ℕ → List ℕ
way_by (Entry a b) c d = []
way_by (Home a b) c d = []
way_by (Way a b h) c d = cond (a == c && b == d) (h ∷ []) []

-- The ways of a pair stand in the order of the list.
abbrev pub drawn : Size → List Record → Net
drawn s rs =
    record {
      channels = s.channels;
      places = s.places;
      entry = λ c d. list_any (λ r. entry_by r c d) rs;
      home = λ c d. list_any (λ r. home_by r c d) rs;
      ways = λ c d. flat_map (λ r. way_by r c d) rs;
    }

-- a network with one record more
abbrev pub adding : Net → Record → Net
adding n r =
    record {
      channels = n.channels;
      places = n.places;
      entry = λ c d. n.entry c d || entry_by r c d;
      home = λ c d. n.home c d || home_by r c d;
      ways = λ c d. n.ways c d ++ way_by r c d;
    }
