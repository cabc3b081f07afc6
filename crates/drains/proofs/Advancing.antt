-- The call that comes next is accepted, and leaves a load of which the packet that moved is the first.
use Rattle.std.proofs.Common.{◌≡◌, ℕ, ◌<◌, ◌≤◌, inl, inr, false, List, length, Option, Some, None, Ok, Result, IsOk, refl, sym, ap, ◌∙◌, arith}
use Rattle.networks.specs.Nets.{Net, Conditions}
use Rattle.loads.specs.Loads.{packet, Holds}
use Rattle.loads.specs.Calls.{MayMove, MayTake, Moves, Takes, Only, with_packet, without_packet}
use Rattle.loads.specs.declared.LoadRecord.{LoadRecord}
use Rattle.loads.specs.declared.faults.LoadFault.{LoadFault}
use Rattle.loads.proofs.Records.{way_inside, packet_with_same, packet_with_other, packet_without_other}
use Rattle.std.specs.Bool.{⊤}
use Rattle.drains.specs.Orders.{Before, First, FirstSmaller}

-- a channel without a packet is empty
none_there : (n : Net) (l : List LoadRecord) (c : ℕ) → c < n.channels → (Holds n l c → ⊥) → (p : Option ℕ) → packet l c ≡ p → packet l c ≡ None
none_there n l c inside none None e = e
none_there n l c inside none (Some d) e = absurd (none (d, (inside, e)))

-- The channel of the first packet's way to a smaller number is empty.
pub may_move : (n : Net) → Conditions n → (number : ℕ → ℕ) (l : List LoadRecord) (c d k h : ℕ) → n.channels ≤ length l → First n number l c d → n.home c d ≡ false → FirstSmaller n number c d k h → MayMove n l c k d h
may_move n ok number l c d k h long first far smaller = record {
  records = long;
  stands = first.stands;
  away = far;
  way = smaller.way;
  empty = none_there n l h (way_inside n ok c d k h smaller.way) (first.none_before h (inl smaller.smaller)) (packet l h) refl;
}

-- A packet that has moved to a smaller number is the first again.
pub first_again : (n : Net) → Conditions n → (number : ℕ → ℕ) (l : List LoadRecord) (c d k h : ℕ) → First n number l c d → number h < number c → MayMove n l c k d h → First n number (without_packet (with_packet l h d) c) h d
first_again n ok number l c d k h first smaller may = record { stands = (inside, here); none_before = none }
  where
    inside : h < n.channels
    inside = way_inside n ok c d k h may.way

    other : h ≡ c → ⊥
    other e = omega (arith, ap number e, smaller)

    here : packet (without_packet (with_packet l h d) c) h ≡ Some d
    here = packet_without_other (with_packet l h d) c h other ∙ packet_with_same l h d (omega (arith, inside, may.records))

    lower : (e : ℕ) → Before number e h → number e < number c
    lower e (inl x) = omega (arith, x, smaller)
    lower e (inr x) = omega (arith, x.0, smaller)

    not_here : (e : ℕ) → Before number e h → e ≡ h → ⊥
    not_here e (inl x) same = omega (arith, ap number same, x)
    not_here e (inr x) same = omega (arith, x.1, same)

    none : (e : ℕ) → Before number e h → Holds n (without_packet (with_packet l h d) c) e → ⊥
    none e before held =
        let less = lower e before in
        let off : e ≡ c → ⊥ = λ same. omega (arith, ap number same, less) in
        let as_before = packet_without_other (with_packet l h d) c e off ∙ packet_with_other l h d e (not_here e before) in
        first.none_before e (inl less) (held.0, (held.1.0, sym as_before ∙ held.1.1))

module _ {n : Net} {l m : List LoadRecord} {c : ℕ} where
  pub move_accepted : {k d h : ℕ} {r : Result ⊤ LoadFault} → MayMove n l c k d h → Only (Moves n l c k) r m → IsOk r × (m ≡ without_packet (with_packet l h d) c)
  move_accepted {k} {d} {h} may x =
      let only = x.only (Ok tt) (without_packet (with_packet l h d) c) (d, h, may, refl) in
      (rw (← only.0) refl, sym only.1)

  pub take_accepted : {d : ℕ} {r : Result ℕ LoadFault} → MayTake n l c d → Only (Takes n l c) r m → IsOk r × (m ≡ without_packet l c)
  take_accepted {d} may x =
      let only = x.only (Ok d) (without_packet l c) (may, refl) in
      (rw (← only.0) refl, sym only.1)
