-- Where packets stand, and stay while a call changes another channel.
use Rattle.std.proofs.Common.{◌≡◌, ℕ, ◌≢◌, List, Some, None, ap, ◌∙◌}
use Rattle.networks.specs.Nets.{Net}
use Rattle.loads.specs.Loads.{packet, At}
use Rattle.loads.specs.Calls.{with_packet, without_packet}
use Rattle.loads.specs.declared.LoadRecord.{LoadRecord}
use Rattle.loads.proofs.Records.{packet_with_other, packet_without_other}

-- a channel with a packet is no empty one
pub apart : (l : List LoadRecord) (c e d : ℕ) → packet l c ≡ Some d → packet l e ≡ None → c ≢ e
apart l c e d full empty same = cc (full, empty, ap (packet l) same)

-- a packet stands still while another channel gets one, or loses its own
module _ (n : Net) where
  pub at_with : (l : List LoadRecord) (c d e f : ℕ) → c ≢ e → At n l c d → At n (with_packet l e f) c d
  at_with l c d e f ne at = (at.0, packet_with_other l e f c ne ∙ at.1)

  pub at_without : (l : List LoadRecord) (c d e : ℕ) → c ≢ e → At n l c d → At n (without_packet l e) c d
  at_without l c d e ne at = (at.0, packet_without_other l e c ne ∙ at.1)
