use Rattle.std.proofs.Common.{◌≡◌, ℕ, ◌<◌, Some, slice_get}
use Rattle.crossings.specs.Crossing.{record_of}
use Rattle.crossings.specs.declared.Stand.{Stand}
use Rattle.bench_loads.proofs.asking.write_load.Given as goal

abbrev pub invariant-loop-channel : goal.invariant-loop-channel
invariant-loop-channel l = (k : ℕ) (s : Stand) → k < l.channel → slice_get l.stands k ≡ Some s → slice_get l.load k ≡ Some (record_of s)
