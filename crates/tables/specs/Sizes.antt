-- The sizes that networks have.
use Rattle.std.specs.Prelude.{◌≤◌}
use Rattle.records.specs.declared.Size.{Size}
use Rattle.networks.specs.Nets.{most_channels, most_places}

-- The size is one of a network.
pub record SizeFits (s : Size) : Type 0 where
  pub some_channel : 1 ≤ s.channels
  pub few_channels : s.channels ≤ most_channels
  pub some_place : 1 ≤ s.places
  pub few_places : s.places ≤ most_places
