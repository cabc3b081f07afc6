-- What the lists say in which networks and loads cross to a program that is not Rattle.
use Rattle.std.specs.Prelude.{◌≡◌, ℕ, ◌<◌, ◌≤◌, true, false, cond, List, ◌++◌, Some, None, Option, map, slice_get}
use Rattle.networks.specs.Nets.{Net}
use Rattle.loads.specs.Loads.{nothing, packet_for, packet}
use Rattle.loads.specs.declared.LoadRecord.{LoadRecord}
use Rattle.records.specs.declared.Record.{Record}
use Rattle.records.specs.declared.Record.TheVariants.{Entry, Home, Way}
use Rattle.tables.specs.Drawn.{drawn}
use Rattle.tables.specs.Makes.{Acceptable}
use Rattle.tables.specs.Meaning.{meaning_of}
use Rattle.tables.specs.declared.table.Table.{Table}
use Rattle.crossings.specs.declared.Stand.{Stand}
use Rattle.crossings.specs.declared.PairWords.{PairWords}
use Rattle.crossings.specs.declared.WayWords.{WayWords}

abbrev pub stand_of : Option ℕ → Stand
stand_of (Some d) = record { full = true; place = d }
stand_of None = record { full = false; place = 0 }

abbrev pub record_of : Stand → LoadRecord
record_of s = cond s.full (packet_for s.place) nothing

-- The stands of so many channels tell what the load has in them. What lies beyond is as it was.
pub record Standing (channels : ℕ) (load : List LoadRecord) (before after : List Stand) : Type 0 where
  pub told : (k : ℕ) → k < channels → slice_get after k ≡ Some (stand_of (packet load k))
  pub beyond : (k : ℕ) → channels ≤ k → slice_get after k ≡ slice_get before k

-- The records that are given as three lists: the entries, the homes and the ways.
abbrev pub records_of : List PairWords → List PairWords → List WayWords → List Record
records_of entries homes ways = map (λ p. Entry p.channel p.place) entries ++ (map (λ p. Home p.channel p.place) homes ++ map (λ w. Way w.channel w.place w.next) ways)

-- The size and these records make a table.
abbrev pub Drawable : ℕ → ℕ → List PairWords → List PairWords → List WayWords → Type 0
Drawable channels places entries homes ways = Acceptable (record { channels = channels; places = places }) (records_of entries homes ways)

-- the network that the size and these records draw
abbrev pub net_of : ℕ → ℕ → List PairWords → List PairWords → List WayWords → Net
net_of channels places entries homes ways = drawn (record { channels = channels; places = places }) (records_of entries homes ways)

-- They make this table.
abbrev pub TableOf : ℕ → ℕ → List PairWords → List PairWords → List WayWords → Table → Type 0
TableOf channels places entries homes ways t = Drawable channels places entries homes ways × (meaning_of t ≡ net_of channels places entries homes ways)
