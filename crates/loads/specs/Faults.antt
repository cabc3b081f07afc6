-- The parts by which refusals of calls on a load are told.
use Rattle.std.specs.Prelude.{ℕ}
use Rattle.records.specs.declared.faults.Layer.TheVariants as layer
use Rattle.records.specs.declared.faults.Parts.{Parts}
use Rattle.networks.specs.Faults.{study_parts}
use Rattle.loads.specs.declared.faults.LoadFault.{LoadFault}
use Rattle.loads.specs.declared.faults.LoadFault.TheVariants.{Study, NoSuchChannel, NoSuchPlace, NoEntry, ChannelTaken, ChannelEmpty, Home, NotHome, NoSuchWay, WayTaken}

abbrev pub study : ℕ → Parts
study number = record { layer = layer.Study; number = number; line = 0; field = 0 }

abbrev pub load_parts : LoadFault → Parts
load_parts (Study f) = study_parts f
load_parts NoSuchChannel = study 30
load_parts NoSuchPlace = study 31
load_parts NoEntry = study 32
load_parts ChannelTaken = study 33
load_parts ChannelEmpty = study 34
load_parts Home = study 35
load_parts NotHome = study 36
load_parts NoSuchWay = study 37
load_parts WayTaken = study 38
