-- Loads of a network's channels.
use Rattle.std.specs.Prelude.{◌≡◌, ℕ, ◌<◌, false, List, Some, None, Option, option_and_then, slice_get}
use Rattle.networks.specs.Allowed.{Allowed}
use Rattle.networks.specs.Nets.{Net, Way}
use Rattle.loads.specs.declared.LoadRecord.{LoadRecord}

-- the place of a record's packet, if there is one
abbrev pub packet_in : LoadRecord → Option ℕ
packet_in r = r.place

-- the record of a channel that holds nothing, and of one that holds a packet for d
abbrev pub nothing : LoadRecord
nothing = record { place = None }

abbrev pub packet_for : ℕ → LoadRecord
packet_for d = record { place = Some d }

-- the place of the packet in channel c, if there is one; none past the end
abbrev pub packet : List LoadRecord → ℕ → Option ℕ
packet load c = option_and_then packet_in (slice_get load c)

-- a packet for d stands in channel c
abbrev pub At : Net → List LoadRecord → ℕ → ℕ → Type 0
At n load c d = (c < n.channels) × (packet load c ≡ Some d)

-- a packet stands in channel c
abbrev pub Holds : Net → List LoadRecord → ℕ → Type 0
Holds n load c = (d : ℕ) × At n load c d

-- the pair of each packet is allowed
abbrev pub AllowedLoad : Net → List LoadRecord → Type 0
AllowedLoad n load = (c d : ℕ) → At n load c d → Allowed n c d

-- A load is blocked if the pair of each packet is allowed, there is a packet, and each packet has to move on but finds each of its
-- ways full.
pub record Blocked (n : Net) (load : List LoadRecord) : Type 0 where
  pub allowed : AllowedLoad n load
  pub packet : (c : ℕ) × Holds n load c
  pub away : (c d : ℕ) → At n load c d → n.home c d ≡ false
  pub full : (c d h : ℕ) → At n load c d → Way n c d h → Holds n load h
