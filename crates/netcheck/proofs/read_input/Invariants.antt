use Rattle.std.proofs.Common.{◌≡◌, ◌-◌, ◌≤◌, length, take}
use Rattle.std.specs.Io.KnownBytes.{Consumes}
use Rattle.netcheck.proofs.read_input.Given as goal

-- the filled front of the buffer is what was taken from the input
abbrev pub invariant-loop-len : goal.invariant-loop-len
invariant-loop-len g l = (length l.buffer ≡ length l.initial.buffer) × (l.len ≤ length l.buffer) × Consumes (g.R.Read.remaining l.initial.input) (g.R.Read.remaining l.input) (take l.len l.buffer)

abbrev pub decreases-loop-len : goal.decreases-loop-len
decreases-loop-len g l = length l.initial.buffer - l.len
