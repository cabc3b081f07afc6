-- Held channels, the needs that they cannot meet, and what our load has in them.
use Rattle.std.proofs.Common.{◌≡◌, ℕ, ◌+◌, ◌<◌, ◌≤◌, ◌↔◌, inl, inr, Bool, true, eqb, eq-eqb, IsTrue, List, length, Option, Some, None, MatchOption, get_or, slice_get, set, below_more, refl, sym, ap, ◌∙◌, arith}
use Rattle.std.specs.List.{list_all}
use Rattle.std.proofs.lemmas.Bool.{eqb-true}
use Rattle.std.proofs.lemmas.List.Elements.{All-get_or, All-from_get_or}
use Rattle.std.proofs.lemmas.List.Sums.{AllPass-from_list_all, list_all-from_AllPass}
use Rattle.numbering.specs.Systems.{System, Conditions}
use Rattle.numbering.specs.Numbers.{HeldSet, Held, AllNumbered, Below, held_number}
use Rattle.loads.specs.Loads.{packet_in, nothing, packet}
use Rattle.checks.specs.Checks.{Shut, LowestShut, OurPacket}
use Rattle.loads.specs.declared.LoadRecord.{LoadRecord}
use Rattle.loads.proofs.Records.{get_set_same, get_set_other}

-- the ways of a need, one by one
pub all_held : (s : System) (number : ℕ → ℕ) (c d : ℕ) (r : Bool) → s.need c d ≡ true → r ≡ list_all (λ h. eqb (number h) held_number) (s.ways c d) → IsTrue r ↔ Shut s number c d
all_held s number c d r need e =
    let test : ℕ → Bool = λ h. eqb (number h) held_number in
    let passes : ℕ → Type 0 = λ h. eqb (number h) held_number ≡ true in (
      λ t. (need, λ h w. eqb-true _ _ (rw w.2 (All-get_or passes (s.ways c d) w.0 0 w.1 (AllPass-from_list_all test (s.ways c d) (sym e ∙ t))))),
      λ shut. e ∙ list_all-from_AllPass test (s.ways c d) (All-from_get_or passes (s.ways c d) 0 (λ k l. eq-eqb _ _ (shut.1 (get_or (s.ways c d) k 0) (k, l, refl)))),
    )

-- A slot that holds a need is below their count, so a search over the slots finds the lowest.
pub lowest_found : (s : System) (ok : Conditions s) (number : ℕ → ℕ) (c slots : ℕ) → slots ≡ s.slots → (r : Option ℕ) → MatchOption r ((k : ℕ) → 0 ≤ k → k < slots → Shut s number c k → ⊥) (λ i. (0 ≤ i) × (i < slots) × Shut s number c i × ((k : ℕ) → 0 ≤ k → k < i → Shut s number c k → ⊥)) → MatchOption r ((d : ℕ) → Shut s number c d → ⊥) (LowestShut s number c)
lowest_found s ok number c slots e None none = λ d x. none d (omega arith) (rw e (ok.need_inside c d x.0).1) x
lowest_found s ok number c slots e (Some i) f = record { shut = f.2; below = λ k l. f.3 k (omega arith) l }

-- A held item has a need with only held ways.
module _ {s : System} (ok : Conditions s) {number : ℕ → ℕ} (all : AllNumbered s number) (low : Below s number) where
  pub held_has : (i : ℕ) → i < s.items → Held s i → number i ≡ held_number
  held_has i l h = elim (all i l) [ inl x ↦ absurd (x.0 h) | inr y ↦ y.1 ]

  pub is_held : (i : ℕ) → i < s.items → number i ≡ held_number → Held s i
  is_held i l e = elim (all i l) [ inl x ↦ let z = low i l x.0 in absurd (omega (arith, z, ok.few_items, e)) | inr y ↦ y.0 ]

  held_shut : (i : ℕ) → i < s.items → number i ≡ held_number → (j : ℕ) × Shut s number i j
  held_shut i l e = let h = is_held i l e in go h.0 h.1 h.2
    where
      go : (set : ℕ → Bool) → HeldSet s set → set i ≡ true → (j : ℕ) × Shut s number i j
      go set held here =
          let x = held i here in
          (x.0, (x.1, λ k w. held_has k (rw w.2 (ok.ways_inside i x.0 w.0 w.1)) (set, held, x.2 k w)))

-- our packet, by what a search for the lowest such need found
pub our_packet : {s : System} (ok : Conditions s) {number : ℕ → ℕ} (all : AllNumbered s number) (low : Below s number) (c : ℕ) → c < s.items → number c ≡ held_number → (r : Option ℕ) → MatchOption r ((d : ℕ) → Shut s number c d → ⊥) (LowestShut s number c) → OurPacket s number c r
our_packet ok all low c l e None none = let x = held_shut ok all low c l e in absurd (none x.0 x.1)
our_packet ok all low c l e (Some d) lowest = record { held = λ _. (d, refl, lowest); free = λ ne. absurd (ne e) }

-- Our packet in one more channel.
pub written_more : (s : System) (number : ℕ → ℕ) (load : List LoadRecord) (r : LoadRecord) (i at : ℕ) → at ≡ i → i < length load → ((c : ℕ) → c < i → OurPacket s number c (packet load c)) → OurPacket s number i (packet_in r) → (c : ℕ) → c < i + 1 → OurPacket s number c (packet (set load at r) c)
written_more s number load r i at e l before here = rw e (below_more (λ c. OurPacket s number c (packet (set load i r) c)) i (λ c m. let ne : c ≡ i → ⊥ = omega arith in rw (get_set_other load i c r ne) (before c m)) (rw (get_set_same load i r l) here))

pub beyond_more : (load first : List LoadRecord) (r : LoadRecord) (i at : ℕ) → at ≡ i → ((k : ℕ) → i ≤ k → slice_get load k ≡ slice_get first k) → (k : ℕ) → i + 1 ≤ k → slice_get (set load at r) k ≡ slice_get first k
beyond_more load first r i at e before k l = let ne : k ≡ at → ⊥ = omega arith in get_set_other load at k r ne ∙ before k (omega arith)

-- the record that is made of what was found holds just that
pub record_holds : (r : Option ℕ) (p : LoadRecord) → MatchOption r (p ≡ nothing) (λ d. packet_in p ≡ Some d) → packet_in p ≡ r
record_holds None p e = ap packet_in e
record_holds (Some d) p e = e
