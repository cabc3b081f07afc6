use Rattle.std.proofs.Common.{◌≤◌, slice_index}
use Rattle.std.specs.Prelude.{All}
use Rattle.numbering.proofs.rounds.is_met.Given as goal

abbrev pub invariant-loop-way : goal.invariant-loop-way
invariant-loop-way g l = All (λ way. l.round ≤ slice_index l.numbers way) l.yielded
