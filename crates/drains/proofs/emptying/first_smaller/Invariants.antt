use Rattle.std.proofs.Common.{ℕ, ◌<◌, ◌≤◌, slice_index}
use Rattle.drains.proofs.emptying.first_smaller.Given as goal

abbrev pub invariant-loop-position : goal.invariant-loop-position
invariant-loop-position g l =
    let number = slice_index l.numbers in
    (j : ℕ) → j < l.position → number l.pair.channel ≤ number (slice_index ((g.N.Network.meaning l.net).ways l.pair.channel l.pair.place) j)
