-- At most one first line agrees with the lines of channels.
use Rattle.std.proofs.Common.{◌≡◌, ℕ, ◌<◌, ◌≤◌, ◌⊎◌, List, [], length, take, count_by, nat_eq, slice_index, refl, sym, ap, ◌∙◌, inl, inr, arith}
use Rattle.std.proofs.lemmas.List.{length-take-le, get_or-take}
use Rattle.std.proofs.Math.Seq.{take-length}
use Rattle.numbering.specs.Numbers.{held_number}
use Rattle.loads.specs.declared.LoadRecord.{LoadRecord}
use Rattle.checks.specs.declared.outcome.Check.{Check}
use Rattle.checks.specs.declared.outcome.Verdict.{Verdict}
use Rattle.checks.specs.declared.outcome.Verdict.TheVariants.{Free, Blocked}
use Rattle.answers.specs.Results.{Agrees, Begins, NoResult, first, no_agreement}

module _ (n : ℕ) (numbers : List ℕ) (k m : Check) (x : Agrees n numbers k) (y : Agrees n numbers m) where
  below : k.numbering.greatest ≤ m.numbering.greatest
  below = go x.greatest.given
    where
      go : (k.numbering.greatest ≡ 0) ⊎ ((c : ℕ) × (c < n) × (slice_index numbers c ≡ held_number → ⊥) × (slice_index numbers c ≡ k.numbering.greatest)) → k.numbering.greatest ≤ m.numbering.greatest
      go (inl z) = omega arith
      go (inr (c, l, h, e)) = omega (arith, y.greatest.none_above c l h)

  verdicts : (v w : Verdict) → k.verdict ≡ v → m.verdict ≡ w → v ≡ w
  verdicts Free Free e f = refl
  verdicts Free Blocked e f = let z = y.free.1 (y.held ∙ sym x.held ∙ x.free.0 e) in absurd (cc)
  verdicts Blocked Free e f = let z = x.free.1 (x.held ∙ sym y.held ∙ y.free.0 f) in absurd (cc)
  verdicts Blocked Blocked e f = refl

agrees_one : (n : ℕ) (numbers : List ℕ) (k m : Check) → Agrees n numbers k → Agrees n numbers m → k ≡ m
agrees_one n numbers k m x y =
    let v = verdicts n numbers k m x y k.verdict m.verdict refl refl in
    let g : k.numbering.greatest ≡ m.numbering.greatest = omega (arith, below n numbers k m x y, below n numbers m k y x) in
    let h : k.numbering.held ≡ m.numbering.held = x.held ∙ sym y.held in
    λ i. record { verdict = v i; numbering = record { greatest = g i; held = h i } }

-- of a list the first numbers are looked at
module _ (n : ℕ) (numbers : List ℕ) (k : Check) (l : n ≤ length numbers) where
  uncut : Agrees (length (take n numbers)) (take n numbers) k → Agrees n numbers k
  uncut x =
      record {
        held = x.held ∙ ap (count_by (λ word. nat_eq word held_number)) (take-length (take n numbers));
        free = x.free;
        greatest = record { none_above = λ c h ne. rw (at c h) at (x.greatest.none_above c (omega (arith, whole)) (λ e. ne (sym (at c h) ∙ e))); given = go x.greatest.given };
      }
    where
      whole : length (take n numbers) ≡ n
      whole = length-take-le n numbers l

      at : (c : ℕ) → c < n → slice_index (take n numbers) c ≡ slice_index numbers c
      at c h = get_or-take n numbers c 0 h

      go : (k.numbering.greatest ≡ 0) ⊎ ((c : ℕ) × (c < length (take n numbers)) × (slice_index (take n numbers) c ≡ held_number → ⊥) × (slice_index (take n numbers) c ≡ k.numbering.greatest)) → (k.numbering.greatest ≡ 0) ⊎ ((c : ℕ) × (c < n) × (slice_index numbers c ≡ held_number → ⊥) × (slice_index numbers c ≡ k.numbering.greatest))
      go (inl z) = inl z
      go (inr (c, h, ne, e)) = let i : c < n = omega (arith, whole) in inr (c, i, (λ f. ne (at c i ∙ f)), sym (at c i) ∙ e)

  pub disagrees : (file : List ℕ) (k' : Check) (load : List LoadRecord) → Begins file k' n numbers load [] → Agrees (length (take n numbers)) (take n numbers) k → (k' ≡ k → ⊥) → NoResult n file no_agreement 1
  disagrees file k' load b x ne = first k' numbers load b (λ y. ne (agrees_one n numbers k' k y (uncut x)))
