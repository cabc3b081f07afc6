-- The parts by which refusals of draining are told.
use Rattle.records.specs.declared.faults.Parts.{Parts}
use Rattle.networks.specs.Faults.{study_parts}
use Rattle.loads.specs.Faults.{study}
use Rattle.drains.specs.declared.faults.DrainFault.{DrainFault}
use Rattle.drains.specs.declared.faults.DrainFault.TheVariants.{Study, Blocked, NotAllowed}

abbrev pub drain_parts : DrainFault → Parts
drain_parts (Study f) = study_parts f
drain_parts Blocked = study 40
drain_parts NotAllowed = study 41
