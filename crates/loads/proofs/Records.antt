-- The records of a load one by one, and after one of them was written.
use Rattle.std.proofs.Common.{◌≡◌, ℕ, zero, suc, ◌<◌, List, [], ◌∷◌, length, Some, None, Option, is_some, true, false, option_and_then, slice_get, set, refl, sym, ap, ◌∙◌, arith}
use native.Mathlib.Decide.{dec_lt}
use Rattle.networks.specs.Nets.{Net, Conditions, WayAt}
use Rattle.std.proofs.lemmas.List.{length-set, get_or-set_same}
use Rattle.std.proofs.lemmas.Option.{slice_get-get_or, slice_get_past}
use Rattle.loads.specs.Loads.{packet_in, nothing, packet_for, packet}
use Rattle.loads.specs.Calls.{with_packet, without_packet}
use Rattle.loads.specs.declared.LoadRecord.{LoadRecord}

pub get_set_same : (load : List LoadRecord) (i : ℕ) (r : LoadRecord) → i < length load → slice_get (set load i r) i ≡ Some r
get_set_same load i r l =
    slice_get-get_or (set load i r) i r (omega (arith, l, length-set load i r)) ∙ ap Some (get_or-set_same load i r r l)

pub get_set_other : (load : List LoadRecord) (i k : ℕ) (r : LoadRecord) → (k ≡ i → ⊥) → slice_get (set load i r) k ≡ slice_get load k
get_set_other [] i k r ne = refl
get_set_other (x ∷ xs) zero zero r ne = absurd (ne refl)
get_set_other (x ∷ xs) zero (suc k) r ne = refl
get_set_other (x ∷ xs) (suc i) zero r ne = refl
get_set_other (x ∷ xs) (suc i) (suc k) r ne = get_set_other xs i k r (λ e. ne (omega arith))

-- what is read of a channel
pub nothing_read : (load : List LoadRecord) (c : ℕ) (p : Option ℕ) → p ≡ packet load c → is_some p ≡ false → packet load c ≡ None
nothing_read load c None e none = sym e
nothing_read load c (Some d) e none = absurd (cc)

pub packet_read : (load : List LoadRecord) (c : ℕ) (p : Option ℕ) → p ≡ packet load c → is_some p ≡ true → (d : ℕ) × (packet load c ≡ Some d)
packet_read load c None e some = absurd (cc)
packet_read load c (Some d) e some = (d, sym e)

-- the way that was asked for of the packet's pair
pub way_read : (n : Net) (c e d k : ℕ) (r o : Option ℕ) → e ≡ c → r ≡ o → WayAt (n.ways e d) k r → WayAt (n.ways c d) k o
way_read n c e d k r o same is w = rw (← same, ← is) w

-- ways lead to channels that there are
pub way_inside : (n : Net) → Conditions n → (c d k h : ℕ) → WayAt (n.ways c d) k (Some h) → h < n.channels
way_inside n ok c d k h w = rw w.1 (ok.ways_inside c d k w.0)

-- writing the record of a packet is putting it
pub written : (load : List LoadRecord) (c d i : ℕ) (r : LoadRecord) → i ≡ c → packet_in r ≡ Some d → set load i r ≡ with_packet load c d
written load c d i r e p =
    let same : r ≡ record { place = Some d } = ap (λ (q : Option ℕ). record { place = q }) p in
    rw (e, same) refl

-- a load has as many records after a call as before
pub length_with : (load : List LoadRecord) (c d : ℕ) → length (with_packet load c d) ≡ length load
length_with load c d = length-set load c (packet_for d)

pub length_without : (load : List LoadRecord) (c : ℕ) → length (without_packet load c) ≡ length load
length_without load c = length-set load c nothing

-- the packets after one was put, or one taken away
pub packet_with_same : (load : List LoadRecord) (c d : ℕ) → c < length load → packet (with_packet load c d) c ≡ Some d
packet_with_same load c d l = ap (option_and_then packet_in) (get_set_same load c (packet_for d) l)

pub packet_with_other : (load : List LoadRecord) (c d x : ℕ) → (x ≡ c → ⊥) → packet (with_packet load c d) x ≡ packet load x
packet_with_other load c d x ne = ap (option_and_then packet_in) (get_set_other load c x (packet_for d) ne)

pub packet_without_same : (load : List LoadRecord) (c : ℕ) → packet (without_packet load c) c ≡ None
packet_without_same load c = go (dec_lt c (length load))
  where
    go : Dec (c < length load) → packet (without_packet load c) c ≡ None
    go (yes l) = ap (option_and_then packet_in) (get_set_same load c nothing l)
    go (no ge) = ap (option_and_then packet_in) (slice_get_past (without_packet load c) c (omega (arith, length_without load c, ge)))

pub packet_without_other : (load : List LoadRecord) (c x : ℕ) → (x ≡ c → ⊥) → packet (without_packet load c) x ≡ packet load x
packet_without_other load c x ne = ap (option_and_then packet_in) (get_set_other load c x nothing ne)
