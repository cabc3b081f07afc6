-- Packet networks.
use Rattle.std.specs.Prelude.{◌≡◌, ℕ, ◌<◌, ◌≤◌, Bool, false, List, [], length, Some, None, Option, slice_index}

-- What a network is: how many channels and places it has, and for each pair of a channel and a place whether packets for
-- the place may be put into the channel (entry), whether they have arrived there (home), and the channels that they may
-- move to from there (ways).
pub record Net : Type 0 where
  pub channels : ℕ
  pub places : ℕ
  pub entry : ℕ → ℕ → Bool
  pub home : ℕ → ℕ → Bool
  pub ways : ℕ → ℕ → List ℕ

pub record Inside (n : Net) (c d : ℕ) : Type 0 where
  pub channel : c < n.channels
  pub place : d < n.places

-- how many channels and places a network has at most, and how many ways a pair
abbrev pub most_channels : ℕ
most_channels = 1024

abbrev pub most_places : ℕ
most_places = 256

abbrev pub most_ways : ℕ
most_ways = 8

-- What every source of networks shows of those it gives.
pub record Conditions (n : Net) : Type 0 where
  pub some_channel : 1 ≤ n.channels
  pub few_channels : n.channels ≤ most_channels
  pub some_place : 1 ≤ n.places
  pub few_places : n.places ≤ most_places
  pub few_ways : (c d : ℕ) → length (n.ways c d) ≤ most_ways
  pub ways_inside : (c d k : ℕ) → k < length (n.ways c d) → slice_index (n.ways c d) k < n.channels
  pub outside : (c d : ℕ) → (Inside n c d → ⊥) → (n.entry c d ≡ false) × (n.home c d ≡ false) × (n.ways c d ≡ [])

-- The way at position k, if there are that many.
abbrev pub WayAt : List ℕ → ℕ → Option ℕ → Type 0
WayAt ways k None = length ways ≤ k
WayAt ways k (Some h) = (k < length ways) × (h ≡ slice_index ways k)

-- h is one of the ways of the pair
abbrev pub Way : Net → ℕ → ℕ → ℕ → Type 0
Way n c d h = (k : ℕ) × (k < length (n.ways c d)) × (h ≡ slice_index (n.ways c d) k)
