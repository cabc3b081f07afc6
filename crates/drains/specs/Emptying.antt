-- A load before it is drained, and while its packets are brought home. Cited by private functions alone.
use Rattle.std.specs.Prelude.{◌≡◌, ℕ, ◌<◌, ◌≤◌, ◌⊎◌, Bool, true, List, length, Some, None, Option, slice_index}
use Rattle.networks.specs.Allowed.{said, listed}
use Rattle.networks.specs.Nets.{Net}
use Rattle.loads.specs.Loads.{Holds}
use Rattle.loads.specs.Calls.{MayMove, MayTake, with_packet, without_packet}
use Rattle.loads.specs.Runs.{Step}
use Rattle.loads.specs.declared.LoadRecord.{LoadRecord}
use Rattle.certificates.specs.Promises.{SoundOfAll}
use Rattle.drains.specs.Orders.{Before, FirstSmaller, InOrder}

-- whether the table says that packets for the place, if there is one, can come to be in channel c
abbrev pub may_stand : Net → List ℕ → ℕ → Option ℕ → Bool
may_stand n table c None = true
may_stand n table c (Some d) = listed n (said table) c d

-- The numbers are a sound numbering of all channels, and below the count of channels.
pub record Lowering (n : Net) (numbers : List ℕ) : Type 0 where
  pub each : n.channels ≤ length numbers
  pub sound : SoundOfAll n (slice_index numbers)
  pub below : (c : ℕ) → c < n.channels → slice_index numbers c < n.channels

-- So many calls, each the one that comes next, make the load m of the load l.
pub record Called (n : Net) (number : ℕ → ℕ) (l m : List LoadRecord) (calls : ℕ) : Type 0 where
  pub steps : List Step
  pub order : InOrder n number l steps m
  pub count : calls ≡ length steps

-- The packet of channel c, for d, is taken, or it moves by its first way to a smaller number, to e. Then there is the load m.
pub data Advanced (n : Net) (number : ℕ → ℕ) (l : List LoadRecord) (c d e : ℕ) (m : List LoadRecord) : Type 0 where
  taken : MayTake n l c d → e ≡ c → m ≡ without_packet l c → Advanced n number l c d e m
  moved : (k : ℕ) → MayMove n l c k d e → FirstSmaller n number c d k e → m ≡ without_packet (with_packet l e d) c → Advanced n number l c d e m

-- no channel that comes before channel c holds a packet
abbrev pub ClearedBefore : Net → (ℕ → ℕ) → ℕ → List LoadRecord → Type 0
ClearedBefore n number c l = (e : ℕ) → Before number e c → Holds n l e → ⊥

-- nor does channel c
abbrev pub ClearedTo : Net → (ℕ → ℕ) → ℕ → List LoadRecord → Type 0
ClearedTo n number c l = (e : ℕ) → Before number e c ⊎ (e ≡ c) → Holds n l e → ⊥
