-- Where each need has a way with a smaller number, some packet of an allowed load can go on.
use Rattle.std.proofs.Common.{◌≡◌, ℕ, zero, suc, ◌+◌, ◌<◌, ◌≤◌, ◌⊎◌, inl, inr, Bool, true, false, List, length, Option, Some, None, Ok, refl, arith}
use native.Mathlib.Decide.{ℕ_discrete}
use Rattle.networks.specs.Nets.{Net, Way}
use Rattle.networks.specs.Nets as nets
use Rattle.loads.specs.Loads.{packet, At, Holds, AllowedLoad}
use Rattle.loads.specs.Calls.{without_packet, with_packet, MayMove, MayTake}
use Rattle.loads.specs.Runs.{MoveOn, Take}
use Rattle.loads.specs.declared.LoadRecord.{LoadRecord}
use Rattle.certificates.specs.Promises.{SoundOfAll, CanProgress}

-- a packet that can go on: it may be taken, or it may move to a channel with a smaller number
pub data Goes (n : Net) (f : ℕ → ℕ) (l : List LoadRecord) : Type 0 where
  may_take : (c d : ℕ) → MayTake n l c d → Goes n f l
  may_move : (c k d h : ℕ) → MayMove n l c k d h → f h < f c → Goes n f l

-- a channel holds a packet, or it is empty
holds_or_empty : (n : Net) (l : List LoadRecord) (c : ℕ) → c < n.channels → Holds n l c ⊎ (packet l c ≡ None)
holds_or_empty n l c lt = go (packet l c) refl
  where
    go : (p : Option ℕ) → packet l c ≡ p → Holds n l c ⊎ (packet l c ≡ None)
    go None e = inr e
    go (Some d) e = inl (d, (lt, e))

-- some channel holds a packet, or none below the bound does
some_or_none_below : (n : Net) (l : List LoadRecord) (bound : ℕ) → bound ≤ n.channels → ((c : ℕ) × Holds n l c) ⊎ ((c : ℕ) → c < bound → Holds n l c → ⊥)
some_or_none_below n l zero le = inr (λ c lt _. absurd (omega arith))
some_or_none_below n l (suc b) le = go (some_or_none_below n l b (omega arith)) (holds_or_empty n l b (omega arith))
  where
    none_more : ((c : ℕ) → c < b → Holds n l c → ⊥) → packet l b ≡ None → (c : ℕ) → c < suc b → Holds n l c → Dec (c ≡ b) → ⊥
    none_more before empty c lt h (yes e) = let at = h.1.1 in absurd (cc)
    none_more before empty c lt h (no ne) = before c (omega arith) h

    go : ((c : ℕ) × Holds n l c) ⊎ ((c : ℕ) → c < b → Holds n l c → ⊥) → Holds n l b ⊎ (packet l b ≡ None) → ((c : ℕ) × Holds n l c) ⊎ ((c : ℕ) → c < suc b → Holds n l c → ⊥)
    go (inl some) here = inl some
    go (inr before) (inl h) = inl (b, h)
    go (inr before) (inr empty) = inr (λ c lt h. none_more before empty c lt h (ℕ_discrete c b))

-- some channel holds a packet, or none does
pub some_or_none : (n : Net) (l : List LoadRecord) → ((c : ℕ) × Holds n l c) ⊎ ((c : ℕ) → Holds n l c → ⊥)
some_or_none n l = go (some_or_none_below n l n.channels (omega arith))
  where
    go : ((c : ℕ) × Holds n l c) ⊎ ((c : ℕ) → c < n.channels → Holds n l c → ⊥) → ((c : ℕ) × Holds n l c) ⊎ ((c : ℕ) → Holds n l c → ⊥)
    go (inl some) = inl some
    go (inr none) = inr (λ c h. none c h.1.0 h)

module _ (n : Net) (ok : nets.Conditions n) (f : ℕ → ℕ) (low : SoundOfAll n f) (l : List LoadRecord) (long : n.channels ≤ length l) (allowed : AllowedLoad n l) where
  -- Either the packet of a channel can go on, or the channel that it has a way to is full and has a smaller number: then look there.
  goes_below : (bound c d : ℕ) → f c < bound → At n l c d → Goes n f l
  goes_below zero c d lt at = absurd (omega arith)
  goes_below (suc b) c d lt at = go (n.home c d) refl (λ x e h. goes_below b x e h)
    where
      onward : ((x e : ℕ) → f x < b → At n l x e → Goes n f l) → n.home c d ≡ false → (h : ℕ) → Way n c d h → f h < f c → Holds n l h ⊎ (packet l h ≡ None) → Goes n f l
      onward again away h way less (inl held) = again h held.0 (omega arith) held.1
      onward again away h way less (inr empty) = may_move c way.0 d h (record { records = long; stands = at; away = away; way = (way.1, way.2); empty = empty }) less

      go : (home : Bool) → n.home c d ≡ home → ((x e : ℕ) → f x < b → At n l x e → Goes n f l) → Goes n f l
      go true home again = may_take c d (record { records = long; stands = at; home = home })
      go false away again =
          let w = low c d (allowed c d at) away in
          onward again away w.0 w.1 w.2 (holds_or_empty n l w.0 (rw w.1.2 (ok.ways_inside c d w.1.0 w.1.1)))

  -- Where there is a packet, some packet can go on.
  pub goes : (c : ℕ) → Holds n l c → Goes n f l
  goes c h = goes_below (f c + 1) c h.0 (omega arith) h.1

  -- So some move or take would be accepted.
  pub can_progress : (c : ℕ) → Holds n l c → CanProgress n l
  can_progress c h = go (goes c h)
    where
      go : Goes n f l → CanProgress n l
      go (may_take c d may) = (Take c, Ok d, without_packet l c, refl, refl, (may, refl))
      go (may_move c k d h may less) = (MoveOn c k, Ok tt, without_packet (with_packet l h d) c, refl, refl, (d, h, may, refl))
