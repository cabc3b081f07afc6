-- Entries and allowed pairs lie inside a network.
use Rattle.std.proofs.Common.{◌≡◌, ℕ, ◌<◌, true}
use native.Mathlib.Decide.{dec_lt}
use Rattle.std.proofs.lemmas.Bool.{both_ways}
use Rattle.networks.specs.Allowed.{Allowed, enters, moves}
use Rattle.networks.specs.Nets.{Net, Inside, Conditions}

module _ (n : Net) (ok : Conditions n) where
  -- an entry lies inside the network, and so does each allowed pair
  pub entry_inside : (c d : ℕ) → n.entry c d ≡ true → Inside n c d
  entry_inside c d e = go (dec_lt c n.channels) (dec_lt d n.places)
    where
      outside : (Inside n c d → ⊥) → ⊥
      outside out = both_ways (n.entry c d) (ok.outside c d out).0 e

      go : Dec (c < n.channels) → Dec (d < n.places) → Inside n c d
      go (yes l) (yes m) = record { channel = l; place = m }
      go (yes l) (no m) = absurd (outside (λ x. m x.place))
      go (no l) m = absurd (outside (λ x. l x.channel))

  pub allowed_inside : {c d : ℕ} → Allowed n c d → Inside n c d
  allowed_inside {c} {d} (enters e) = entry_inside c d e
  allowed_inside {c = h} {d} (moves {c = c} a away w) =
      record { channel = rw w.2 (ok.ways_inside c d w.0 w.1); place = (allowed_inside a).place }
