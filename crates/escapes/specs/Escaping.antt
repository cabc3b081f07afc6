-- The escape system of a network.
use Rattle.std.specs.Prelude.{◌≡◌, Bool, ℕ, ◌<◌, true, not, ◌&&◌, cond, None, nat_lt}
use Rattle.std.proofs.Common.{arith}
use Rattle.std.proofs.lemmas.Bool.{ltb-true, le-ltb, and_parts}
use Rattle.networks.specs.Allowed.{position, listed, must_move}
use Rattle.networks.specs.Nets.{Net}
use Rattle.networks.specs.Nets as nets
use Rattle.numbering.specs.Systems.{System, Conditions, no_label}
use Rattle.numbering.specs.declared.Label.{Label}

-- a channel without a place, where it is below the count
abbrev pub channel_label : Net → ℕ → Label
channel_label n c = cond (nat_lt c n.channels) (record { channel = c; place = None }) no_label

-- The release system of a network's channels: slot d of channel c holds a need exactly when packets for d can come to be in c and
-- then have to move on; its ways are those of the pair.
abbrev pub escape : Net → (ℕ → Bool) → System
escape n allowed = record { items = n.channels; slots = n.places; need = must_move n allowed; ways = n.ways; label = channel_label n }

-- a need has a channel and a place
need_inside : (n : Net) (allowed : ℕ → Bool) (c d : ℕ) → must_move n allowed c d ≡ true → (c < n.channels) × (d < n.places)
need_inside n allowed c d e =
    let byte = allowed (position n c d) in
    let p = and_parts (nat_lt c n.channels) (nat_lt d n.places && byte) (and_parts (listed n allowed c d) (not (n.home c d)) e).0 in
    (ltb-true c n.channels p.0, ltb-true d n.places (and_parts (nat_lt d n.places) byte p.1).0)

-- It keeps the limits of release systems.
pub escape_conditions : (n : Net) (allowed : ℕ → Bool) → nets.Conditions n → Conditions (escape n allowed)
escape_conditions n allowed ok =
    record {
      some_item = ok.some_channel;
      few_items = omega (arith, ok.few_channels);
      few_slots = ok.few_places;
      few_ways = ok.few_ways;
      ways_inside = ok.ways_inside;
      need_inside = need_inside n allowed;
      label_outside = λ c past. rw (le-ltb c n.channels past);
    }
