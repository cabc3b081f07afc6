use Rattle.std.proofs.Common.{slice_index}
use Rattle.networks.specs.Allowed.{said}
use Rattle.numbering.specs.Rounds.{Midway}
use Rattle.numbering.proofs.rounds.run_round.Given as goal

abbrev pub invariant-loop-position : goal.invariant-loop-position
invariant-loop-position g l =
    Midway (g.S.ReleaseSystem.meaning l.system (said l.allowed)) (slice_index l.numbers) l.list l.round l.kept l.position l.end
