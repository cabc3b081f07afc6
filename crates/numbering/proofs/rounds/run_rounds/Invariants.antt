use Rattle.std.proofs.Common.{◌+◌, ◌≤◌, slice_index}
use Rattle.networks.specs.Allowed.{said}
use Rattle.numbering.specs.Rounds.{Listing}
use Rattle.numbering.proofs.rounds.run_rounds.Given as goal

abbrev pub invariant-loop-end : goal.invariant-loop-end
invariant-loop-end g l =
    let s = g.S.ReleaseSystem.meaning l.system (said l.allowed) in
    Listing s (slice_index l.numbers) l.list l.round l.end × (l.round + l.end ≤ s.items)

abbrev pub decreases-loop-end : goal.decreases-loop-end
decreases-loop-end g l = l.end
