use Rattle.std.proofs.Common.{◌≡◌, ◌≤◌, count_by, is_some, take}
use Rattle.loads.specs.Loads.{packet_in}
use Rattle.loads.proofs.calls.is_full.Given as goal

abbrev pub invariant-loop-record : goal.invariant-loop-record
invariant-loop-record g l = (l.packets ≡ count_by (λ r. is_some (packet_in r)) (take l.record-index (take (g.N.Network.meaning l.net).channels l.load))) × (l.packets ≤ l.record-index)
