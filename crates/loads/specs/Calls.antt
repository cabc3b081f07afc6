-- What putting, moving and taking packets answer, and which load there is after them.
use Rattle.std.specs.Prelude.{◌≡◌, ℕ, ◌<◌, ◌≤◌, true, false, List, length, take, Some, None, Ok, Err, Result, count_by, is_some, slice_set, ⊤}
use Rattle.networks.specs.Nets.{Net, WayAt}
use Rattle.networks.specs.declared.faults.Buffer.TheVariants.{Load}
use Rattle.networks.specs.declared.faults.StudyFault.TheVariants.{Short}
use Rattle.loads.specs.Faults.{load_parts}
use Rattle.loads.specs.Loads.{packet_in, nothing, packet_for, packet, At, Holds}
use Rattle.loads.specs.declared.LoadRecord.{LoadRecord}
use Rattle.loads.specs.declared.faults.LoadFault.{LoadFault}
use Rattle.loads.specs.declared.faults.LoadFault.TheVariants.{Study, NoSuchChannel, NoSuchPlace, NoEntry, ChannelTaken, ChannelEmpty, Home, NotHome, NoSuchWay, WayTaken}

-- the load with a packet for d in channel c and all else as it was, and with nothing in channel c
abbrev pub with_packet : List LoadRecord → ℕ → ℕ → List LoadRecord
with_packet load c d = slice_set load c (packet_for d)

abbrev pub without_packet : List LoadRecord → ℕ → List LoadRecord
without_packet load c = slice_set load c nothing

-- how many channels hold a packet
abbrev pub packet_count : Net → List LoadRecord → ℕ
packet_count n load = count_by (λ r. is_some (packet_in r)) (take n.channels load)

-- Of the refusals that something speaks for, the one with the lowest number is told.
pub record Told (Against : LoadFault → Type 0) (f : LoadFault) : Type 0 where
  pub applies : Against f
  pub lowest : (g : LoadFault) → Against g → (load_parts f).number ≤ (load_parts g).number

-- A packet for d may be put into channel c if there are enough records, the pair is an entry and the channel is empty.
pub record MayPut (n : Net) (load : List LoadRecord) (c d : ℕ) : Type 0 where
  pub records : n.channels ≤ length load
  pub entry : n.entry c d ≡ true
  pub empty : packet load c ≡ None

-- what speaks against it, each with the refusal that tells it
pub data AgainstPut (n : Net) (load : List LoadRecord) (c d : ℕ) : LoadFault → Type 0 where
  short : length load < n.channels → AgainstPut n load c d (Study (Short Load))
  no_channel : n.channels ≤ c → AgainstPut n load c d NoSuchChannel
  no_place : n.places ≤ d → AgainstPut n load c d NoSuchPlace
  no_entry : n.entry c d ≡ false → AgainstPut n load c d NoEntry
  full : packet_count n load ≡ n.channels → AgainstPut n load c d ChannelTaken
  taken : Holds n load c → AgainstPut n load c d ChannelTaken

-- The packet stands in the channel then. After a refusal the load is as it was.
abbrev pub Puts : Net → List LoadRecord → ℕ → ℕ → Result ⊤ LoadFault → List LoadRecord → Type 0
Puts n load c d (Ok _) load' = MayPut n load c d × (load' ≡ with_packet load c d)
Puts n load c d (Err f) load' = Told (AgainstPut n load c d) f × (load' ≡ load)

-- The packet of channel c, for d, may move by its way k, to h, if there are enough records, it is not home and channel h is empty.
pub record MayMove (n : Net) (load : List LoadRecord) (c k d h : ℕ) : Type 0 where
  pub records : n.channels ≤ length load
  pub stands : At n load c d
  pub away : n.home c d ≡ false
  pub way : WayAt (n.ways c d) k (Some h)
  pub empty : packet load h ≡ None

-- what speaks against it
pub data AgainstMove (n : Net) (load : List LoadRecord) (c k : ℕ) : LoadFault → Type 0 where
  short : length load < n.channels → AgainstMove n load c k (Study (Short Load))
  no_channel : n.channels ≤ c → AgainstMove n load c k NoSuchChannel
  empty : packet load c ≡ None → AgainstMove n load c k ChannelEmpty
  home : (d : ℕ) → At n load c d → n.home c d ≡ true → AgainstMove n load c k Home
  no_way : (d : ℕ) → At n load c d → WayAt (n.ways c d) k None → AgainstMove n load c k NoSuchWay
  taken : (d h : ℕ) → At n load c d → WayAt (n.ways c d) k (Some h) → Holds n load h → AgainstMove n load c k WayTaken

-- The packet stands in the channel of the way then, and no longer in its own. After a refusal the load is as it was.
abbrev pub Moves : Net → List LoadRecord → ℕ → ℕ → Result ⊤ LoadFault → List LoadRecord → Type 0
Moves n load c k (Ok _) load' = (d h : ℕ) × MayMove n load c k d h × (load' ≡ without_packet (with_packet load h d) c)
Moves n load c k (Err f) load' = Told (AgainstMove n load c k) f × (load' ≡ load)

-- The packet of channel c, for d, may be taken if there are enough records and it is home.
pub record MayTake (n : Net) (load : List LoadRecord) (c d : ℕ) : Type 0 where
  pub records : n.channels ≤ length load
  pub stands : At n load c d
  pub home : n.home c d ≡ true

-- what speaks against it
pub data AgainstTake (n : Net) (load : List LoadRecord) (c : ℕ) : LoadFault → Type 0 where
  short : length load < n.channels → AgainstTake n load c (Study (Short Load))
  no_channel : n.channels ≤ c → AgainstTake n load c NoSuchChannel
  empty : packet load c ≡ None → AgainstTake n load c ChannelEmpty
  away : (d : ℕ) → At n load c d → n.home c d ≡ false → AgainstTake n load c NotHome

-- The place of the packet is answered, and the channel is empty then. After a refusal the load is as it was.
abbrev pub Takes : Net → List LoadRecord → ℕ → Result ℕ LoadFault → List LoadRecord → Type 0
Takes n load c (Ok d) load' = MayTake n load c d × (load' ≡ without_packet load c)
Takes n load c (Err f) load' = Told (AgainstTake n load c) f × (load' ≡ load)

-- What the call does allows the answer a with the load l, and no other answer and no other load.
pub record Only {A : Type 0} (Does : A → List LoadRecord → Type 0) (a : A) (l : List LoadRecord) : Type 0 where
  pub does : Does a l
  pub only : (b : A) (m : List LoadRecord) → Does b m → (b ≡ a) × (m ≡ l)
