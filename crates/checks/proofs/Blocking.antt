-- Where our load is blocked, and where none is.
use Rattle.std.proofs.Common.{◌≡◌, ℕ, ◌<◌, ◌↔◌, inl, inr, Bool, true, false, not, ◌&&◌, nat_lt, eq-eqb, List, Option, is_some, Some, None, slice_index, subst, refl, ap, arith}
use native.Mathlib.Decide.{ℕ_discrete}
use Rattle.std.proofs.lemmas.Bool.{ltb-true, lt-ltb, eqb-true, and_parts, and_from, not-true, not_from_false}
use Rattle.networks.specs.Allowed.{Allowed, position, listed, must_move, said}
use Rattle.networks.specs.Nets.{Net}
use Rattle.networks.specs.Nets as nets
use Rattle.numbering.specs.Systems.{Way}
use Rattle.numbering.specs.Numbers.{HeldSet, Held, AllNumbered, Below, held_number}
use Rattle.tracing.specs.Traces.{Traced}
use Rattle.networks.proofs.Inside.{allowed_inside}
use Rattle.escapes.specs.Escaping.{escape, escape_conditions}
use Rattle.loads.specs.Loads.{packet, At, Holds, Blocked}
use Rattle.checks.specs.Checks.{Shut, Ours, Judged}
use Rattle.checks.proofs.OurLoad.{held_has}
use Rattle.loads.specs.declared.LoadRecord.{LoadRecord}
use Rattle.checks.specs.declared.outcome.Verdict.{Verdict}
use Rattle.checks.specs.declared.outcome.Verdict.TheVariants as verdicts

-- A pair that is listed by the table of a traced network is one that packets can reach, and a need is that of such a pair that is not home.
module _ {n : Net} {before table : List ℕ} {ones : ℕ} (t : Traced n before table ones) where
  pub listed_told : (c d : ℕ) → listed n (said table) c d ≡ true → Allowed n c d
  listed_told c d e =
      let byte = said table (position n c d) in
      let x = and_parts (nat_lt c n.channels) (nat_lt d n.places && byte) e in
      let y = and_parts (nat_lt d n.places) byte x.1 in
      elim (t.bytes c d (ltb-true c n.channels x.0) (ltb-true d n.places y.0)) [ inl z ↦ z.0 | inr z ↦ absurd (omega (arith, z.1, eqb-true _ _ y.1)) ]

  pub need_moves : (c d : ℕ) → (escape n (said table)).need c d ≡ true → Allowed n c d × (n.home c d ≡ false)
  need_moves c d e = let x = and_parts (listed n (said table) c d) (not (n.home c d)) e in (listed_told c d x.0, not-true (n.home c d) x.1)

-- Our load is blocked exactly if some channel is held.
module _ {n : Net} (ok : nets.Conditions n) {before table : List ℕ} {ones : ℕ} (t : Traced n before table ones) (number : ℕ → ℕ) (load : List LoadRecord) (ours : Ours (escape n (said table)) number load) where
  -- packets stand in held channels, for places whose needs have only held ways
  packet_shut : (c d : ℕ) → At n load c d → (number c ≡ held_number) × Shut (escape n (said table)) number c d
  packet_shut c d at = go (ℕ_discrete (number c) held_number)
    where
      go : Dec (number c ≡ held_number) → (number c ≡ held_number) × Shut (escape n (said table)) number c d
      go (yes e) =
          let x = (ours c at.0).held e in
          let same : x.0 ≡ d = cc (at.1, x.1) in
          (e, subst (λ (k : ℕ). Shut (escape n (said table)) number c k) same x.2.shut)
      go (no ne) = absurd (cc (at.1, (ours c at.0).free ne))

  holds : (c : ℕ) → c < n.channels → number c ≡ held_number → Holds n load c
  holds c l e = let x = (ours c l).held e in (x.0, (l, x.1))

  blocked : (c : ℕ) → c < n.channels → number c ≡ held_number → Blocked n load
  blocked c l e = record {
    allowed = λ c d at. (need_moves t c d (packet_shut c d at).1.0).0;
    packet = (c, holds c l e);
    away = λ c d at. (need_moves t c d (packet_shut c d at).1.0).1;
    full = λ c d h at w. holds h (rw w.2 (ok.ways_inside c d w.0 w.1)) ((packet_shut c d at).1.1 h w);
  }

  pub blocked_exactly : (v : Verdict) → Judged v (escape n (said table)) number → (v ≡ verdicts.Blocked) ↔ Blocked n load
  blocked_exactly verdicts.Free free = (λ e. absurd (cc), λ b. let x = b.packet in absurd (free x.0 x.1.1.0 (packet_shut x.0 x.1.0 x.1.1).0))
  blocked_exactly verdicts.Blocked held = (λ _. blocked held.0 held.1 held.2, λ _. refl)

-- The channels of a blocked load's packets are a held set, so there is no such load where no channel is held.
module _ {n : Net} (ok : nets.Conditions n) {before table : List ℕ} {ones : ℕ} (t : Traced n before table ones) where
  pub listed_allowed : (c d : ℕ) → Allowed n c d → listed n (said table) c d ≡ true
  listed_allowed c d a =
      let i = allowed_inside n ok a in
      let one : slice_index table (position n c d) ≡ 1 = elim (t.bytes c d i.channel i.place) [ inl x ↦ x.1 | inr y ↦ absurd (y.0 a) ] in
      and_from _ _ (lt-ltb c n.channels i.channel) (and_from _ _ (lt-ltb d n.places i.place) (eq-eqb _ _ one))

  pub packets_held : (load : List LoadRecord) → Blocked n load → (c : ℕ) → Holds n load c → Held (escape n (said table)) c
  packets_held load b c h = (full, held, set_at c h)
    where
      full : ℕ → Bool
      full c = nat_lt c n.channels && is_some (packet load c)

      set_at : (c : ℕ) → Holds n load c → full c ≡ true
      set_at c h = and_from _ _ (lt-ltb c n.channels h.1.0) (ap is_some h.1.1)

      held_at : (c : ℕ) (p : Option ℕ) → c < n.channels → packet load c ≡ p → is_some p ≡ true → (d : ℕ) × (must_move n (said table) c d ≡ true) × ((h : ℕ) → Way (escape n (said table)) c d h → full h ≡ true)
      held_at c None l e f = absurd (cc)
      held_at c (Some d) l e f =
          (d, and_from _ _ (listed_allowed c d (b.allowed c d (l, e))) (not_from_false _ (b.away c d (l, e))), λ h w. set_at h (b.full c d h (l, e) w))

      held : HeldSet (escape n (said table)) full
      held c e = let x = and_parts (nat_lt c n.channels) (is_some (packet load c)) e in held_at c _ (ltb-true _ _ x.0) refl x.1

  pub no_other : {number : ℕ → ℕ} → AllNumbered (escape n (said table)) number → Below (escape n (said table)) number → Judged verdicts.Free (escape n (said table)) number → (load : List LoadRecord) → Blocked n load → ⊥
  no_other all low free load b =
      let x = b.packet in
      free x.0 x.1.1.0 (held_has (escape_conditions n (said table) ok) all low x.0 x.1.1.0 (packets_held load b x.0 x.1))
