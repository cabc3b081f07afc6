-- Why a call on a load has no channel to look at, or no packet in it: the first that applies. Cited by private functions alone.
use Rattle.std.specs.Prelude.{◌≡◌, ℕ, ◌<◌, ◌≤◌, ◌⊎◌, List, length, None}
use Rattle.networks.specs.Nets.{Net}
use Rattle.networks.specs.declared.faults.Buffer.TheVariants.{Load}
use Rattle.networks.specs.declared.faults.StudyFault.TheVariants.{Short}
use Rattle.loads.specs.Loads.{packet}
use Rattle.loads.specs.declared.LoadRecord.{LoadRecord}
use Rattle.loads.specs.declared.faults.LoadFault.{LoadFault}
use Rattle.loads.specs.declared.faults.LoadFault.TheVariants.{Study, NoSuchChannel, ChannelEmpty}

abbrev pub NoChannel : Net → List LoadRecord → ℕ → LoadFault → Type 0
NoChannel n load c f = ((length load < n.channels) × (f ≡ Study (Short Load))) ⊎ ((n.channels ≤ length load) × (n.channels ≤ c) × (f ≡ NoSuchChannel))

abbrev pub NoPacket : Net → List LoadRecord → ℕ → LoadFault → Type 0
NoPacket n load c f = NoChannel n load c f ⊎ ((n.channels ≤ length load) × (c < n.channels) × (packet load c ≡ None) × (f ≡ ChannelEmpty))
