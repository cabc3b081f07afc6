-- The least word of a need's ways, and the greatest number over the slots of an item.
use Rattle.std.proofs.Common.{◌≡◌, ℕ, ◌+◌, ◌<◌, ◌≤◌, ◌⊎◌, List, [], ◌∷◌, ◌++◌, inl, inr, sym, ◌∙◌, arith, subst, min, length-append, max}
use Rattle.std.specs.Prelude.{All, Any}
use Rattle.std.proofs.lemmas.List.{get_or_append_left}
use Rattle.std.proofs.lemmas.List.Elements.{All-push}
use Rattle.std.proofs.lemmas.List.Quantifiers.{Any-push}
use native.Mathlib.Decide.{ℕ_discrete, dec_lt}
use Rattle.numbering.specs.Numbers.{held_number}
use Rattle.numbering.specs.Systems.{System}
use Rattle.numbering.specs.Rounds.{Met}
use Rattle.numbering.specs.Walks.{forced, Fixed, Bounds}

-- The ways are settled, and none of them has a smaller word than the least, which one of them has unless it is that of held items.
pub record Least (f : ℕ → ℕ) (ways : List ℕ) (least : ℕ) : Type 0 where
  pub fixed : Fixed least
  pub settled : All (λ way. Fixed (f way)) ways
  pub not_above : All (λ way. least ≤ f way) ways
  pub some : (least ≡ held_number) ⊎ Any (λ h. f h ≡ least) ways

module _ (f : ℕ → ℕ) (ways : List ℕ) (least way : ℕ) (x : Least f ways least) where
  some_left : (m : ℕ) → m ≡ least → (m ≡ held_number) ⊎ Any (λ h. f h ≡ m) (ways ++ way ∷ [])
  some_left m e = go x.some
    where
      go : (least ≡ held_number) ⊎ Any (λ h. f h ≡ least) ways → (m ≡ held_number) ⊎ Any (λ h. f h ≡ m) (ways ++ way ∷ [])
      go (inl z) = inl (e ∙ z)
      go (inr (k, h, l, i, z)) = inr (k, h, omega (arith, length-append ways (way ∷ [])), get_or_append_left ways (way ∷ []) h k l ∙ i, z ∙ sym e)

  pub least_more : Fixed (f way) → Least f (ways ++ way ∷ []) (min least (f way))
  least_more fixed = record {
    fixed = λ l. omega (arith, x.fixed, fixed, l);
    settled = All-push (λ h. Fixed (f h)) ways way x.settled fixed;
    not_above = All-push (λ h. min least (f way) ≤ f h) ways way (λ k d l. let z = x.not_above k d l in omega (arith, z)) (omega arith);
    some = some (dec_lt (f way) least);
  }
    where
      some : Dec (f way < least) → (min least (f way) ≡ held_number) ⊎ Any (λ h. f h ≡ min least (f way)) (ways ++ way ∷ [])
      some (yes l) = inr (Any-push (λ h. f h ≡ min least (f way)) ways way (omega arith))
      some (no l) = some_left (min least (f way)) (omega arith)

-- The slots before `to` were looked at, and the number is the greatest of theirs.
pub record Greatest (s : System) (f : ℕ → ℕ) (i to number : ℕ) : Type 0 where
  pub low : number ≤ forced
  pub each : (j : ℕ) → j < to → Met s f i number j
  pub last : (number ≡ 0) ⊎ ((j : ℕ) × Bounds s f i number j)

met_above : (s : System) (f : ℕ → ℕ) (i n m j : ℕ) → n ≤ m → Met s f i n j → Met s f i m j
met_above s f i n m j l x e = let w = x e in (w.0, w.1, omega (arith, w.2, l))

pub greatest_more : (s : System) (f : ℕ → ℕ) (i slot number n : ℕ) → Greatest s f i slot number → n ≤ forced → Met s f i n slot → (n ≡ 0) ⊎ Bounds s f i n slot → Greatest s f i (slot + 1) (max number n)
greatest_more s f i slot number n x low met bounds = record { low = omega (arith, x.low, low); each = λ j l. each j l (ℕ_discrete j slot); last = last (dec_lt number n) }
  where
    each : (j : ℕ) → j < slot + 1 → Dec (j ≡ slot) → Met s f i (max number n) j
    each j l (yes e) = met_above s f i n (max number n) j (omega arith) (subst (Met s f i n) (sym e) met)
    each j l (no ne) = met_above s f i number (max number n) j (omega arith) (x.each j (omega (arith, ne)))

    here : (n ≡ 0) ⊎ Bounds s f i n slot → (n ≡ 0) ⊎ ((j : ℕ) × Bounds s f i n j)
    here (inl z) = inl z
    here (inr b) = inr (slot, b)

    last : Dec (number < n) → (max number n ≡ 0) ⊎ ((j : ℕ) × Bounds s f i (max number n) j)
    last (yes l) = let e : n ≡ max number n = omega (arith, l) in subst (λ m. (m ≡ 0) ⊎ ((j : ℕ) × Bounds s f i m j)) e (here bounds)
    last (no l) = let e : number ≡ max number n = omega (arith, l) in subst (λ m. (m ≡ 0) ⊎ ((j : ℕ) × Bounds s f i m j)) e x.last
