-- What the search for a packet that offends against a load's being blocked finds.
use Rattle.std.proofs.Common.{◌≡◌, ℕ, ◌+◌, ◌<◌, ◌≤◌, ◌↔◌, Bool, true, false, IsTrue, List, length, MatchBool, Some, None, get_or, slice_index, below_more, refl, arith}
use Rattle.std.specs.List.{AllWithin, HoldsAt, range_with_len}
use Rattle.std.proofs.lemmas.Bool.{both_ways}
use Rattle.std.proofs.lemmas.List.FromFn.{get_or-range_with_len, length-range_with_len}
use Rattle.networks.specs.Allowed.{Allowed, listed, said}
use Rattle.networks.specs.Nets.{Net}
use Rattle.networks.specs.Nets as nets
use Rattle.tracing.specs.Traces.{Traced}
use Rattle.loads.specs.Loads.{packet, At, Holds}
use Rattle.loads.specs.declared.LoadRecord.{LoadRecord}
use Rattle.loads.proofs.Refusals.{same_place}
use Rattle.checks.proofs.Blocking.{listed_told, listed_allowed}
use Rattle.judges.specs.Judgements.{Lowest, Loose, not_allowed, home, empty_way}

-- Loose packets are packets.
pub loose_at : {n : Net} (l : List LoadRecord) (c d : ℕ) → Loose n l c d → At n l c d
loose_at l c d (not_allowed y _) = y
loose_at l c d (home y _) = y
loose_at l c d (empty_way _ y _ _) = y

module _ {n : Net} (l : List LoadRecord) (c d : ℕ) (at : At n l c d) where
  -- a packet that is allowed and not home offends by its ways alone
  pub by_ways : Allowed n c d → n.home c d ≡ false → (r : Bool) → MatchBool r ((k : ℕ) × (k < length (n.ways c d)) × HoldsAt (λ h. packet l h ≡ None) (n.ways c d) k) (AllWithin (λ h. packet l h ≡ None → ⊥) (n.ways c d) 0 (length (n.ways c d))) → IsTrue r ↔ Loose n l c d
  by_ways allowed away true x = (λ _. empty_way (slice_index (n.ways c d) x.0) at (x.0, x.1, refl) (x.2 0), λ _. refl)
  by_ways allowed away false x = (λ holds. absurd (cc), go)
    where
      go : Loose n l c d → false ≡ true
      go (not_allowed _ out) = absurd (out allowed)
      go (home _ is_home) = absurd (both_ways _ away is_home)
      go (empty_way h _ w e) = absurd (x w.0 0 (omega arith) w.1 (rw w.2 at e))

  -- no lower packet stands in the channel
  pub lowest_packet : ((e f : ℕ) → e < c → Loose n l e f → ⊥) → Loose n l c d → Lowest (Loose n l) c d
  lowest_packet before here = record { offends = here; channel = before; place = λ f m x. absurd (omega (arith, same_place n l c d f at (loose_at l c f x))) }

-- In a channel without a packet none offends, and where the channel's packet does not offend no other does.
module _ {n : Net} (l : List LoadRecord) where
  pub no_packet : (c : ℕ) → packet l c ≡ None → (d : ℕ) → Loose n l c d → ⊥
  no_packet c e d x = absurd (cc (e, (loose_at l c d x).1))

  pub no_other : (c d : ℕ) → At n l c d → (Loose n l c d → ⊥) → (f : ℕ) → Loose n l c f → ⊥
  no_other c d at none f x = none (rw (same_place n l c d f at (loose_at l c f x)) at x)

  -- so none does of one more channel, or of all if none does of those below their count
  pub none_more : (c : ℕ) → ((e f : ℕ) → e < c → Loose n l e f → ⊥) → ((f : ℕ) → Loose n l c f → ⊥) → (e f : ℕ) → e < c + 1 → Loose n l e f → ⊥
  none_more c before here e f m = below_more (λ e. (f : ℕ) → Loose n l e f → ⊥) c (λ k h f. before k f h) here e m f

  pub none_past : (channels : ℕ) → n.channels ≤ channels → ((e f : ℕ) → e < channels → Loose n l e f → ⊥) → (e f : ℕ) → Loose n l e f → ⊥
  none_past channels m none e f x = none e f (omega (arith, (loose_at l e f x).0)) x

-- What the table says of a packet: one that is not allowed offends, and one that has to move is allowed.
module _ {n : Net} (ok : nets.Conditions n) {before table : List ℕ} {ones : ℕ} (t : Traced n before table ones) (l : List LoadRecord) (c d : ℕ) (at : At n l c d) where
  pub not_told : listed n (said table) c d ≡ false → Loose n l c d
  not_told e = not_allowed at (λ allowed. both_ways _ e (listed_allowed ok t c d allowed))

  pub told : listed n (said table) c d ≡ true → Allowed n c d
  told e = listed_told t c d e

-- the search over the channels for a packet
pub some_packet : (n : Net) (l : List LoadRecord) (channels : ℕ) → channels ≡ n.channels → (r : Bool) → MatchBool r ((k : ℕ) × (k < length (range_with_len 0 channels)) × HoldsAt (λ c. (d : ℕ) × (packet l c ≡ Some d)) (range_with_len 0 channels) k) (AllWithin (λ c. packet l c ≡ None) (range_with_len 0 channels) 0 (length (range_with_len 0 channels))) → IsTrue r ↔ ((c : ℕ) × Holds n l c)
some_packet n l channels e true x =
    let inside : x.0 < channels = omega (arith, length-range_with_len 0 channels, x.1) in
    let same : get_or (range_with_len 0 channels) x.0 0 ≡ x.0 = omega (arith, get_or-range_with_len 0 channels x.0 0 inside) in
    (λ _. (x.0, ((x.2 0).0, (omega arith, rw same at (x.2 0).1))), λ _. refl)
some_packet n l channels e false x = (λ holds. absurd (cc), go)
  where
    go : (c : ℕ) × Holds n l c → false ≡ true
    go (c, (d, at)) =
        let inside : c < channels = omega (arith, at.0) in
        let same : get_or (range_with_len 0 channels) c 0 ≡ c = omega (arith, get_or-range_with_len 0 channels c 0 inside) in
        let none : packet l c ≡ None = rw same at (x c 0 (omega arith) (omega (arith, length-range_with_len 0 channels))) in
        absurd (cc (none, at.1))
