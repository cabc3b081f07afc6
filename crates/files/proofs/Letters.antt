-- A line whose first field is one letter.
use Rattle.std.proofs.Common.{◌≡◌, ℕ, ◌-◌, ◌<◌, ◌≤◌, ◌⊎◌, List, [], ◌∷◌, ◌++◌, length, get_or, take, drop, sym, ap, ◌∙◌, subst, inl, inr, arith}
use Rattle.std.proofs.lemmas.List.{drop_more, drop_all, take_rest}
use Rattle.lines.specs.Pieces.{fields_of, line_of, Lacks, Apart}
use Rattle.lines.proofs.Laws.{fielded, fields_then, fields_last}

pub alone : (line : List ℕ) (c : ℕ) → length line ≡ 1 → (get_or line 0 0 ≡ 9 → ⊥) → c ≡ get_or line 0 0 → fields_of line ≡ (c ∷ []) ∷ []
alone line c h ne e =
    let a = drop_more line 0 0 (omega arith) in
    let b : drop 1 line ≡ [] = drop_all 1 line (omega arith) in
    let l : line ≡ c ∷ [] = cc in
    ap fields_of l ∙ fields_last (c ∷ []) (λ z. ne (sym e ∙ z), tt)

pub followed : (line : List ℕ) (c : ℕ) → 2 ≤ length line → get_or line 1 0 ≡ 9 → (get_or line 0 0 ≡ 9 → ⊥) → c ≡ get_or line 0 0 → fields_of line ≡ (c ∷ []) ∷ fields_of (take (length line - 2) (drop 2 line))
followed line c h tab ne e =
    let a = drop_more line 0 0 (omega arith) in
    let b : drop 1 line ≡ get_or line 1 0 ∷ drop 2 line = drop_more line 1 0 (omega arith) in
    let t = take_rest line 2 in
    let l : line ≡ (c ∷ []) ++ (9 ∷ drop 2 line) = cc in
    ap fields_of l ∙ fields_then (c ∷ []) (drop 2 line) (λ z. ne (sym e ∙ z), tt) ∙ ap (λ r. (c ∷ []) ∷ fields_of r) (sym t)

-- the shapes that the slice patterns take
abbrev pub Lettered : List ℕ → Type 0
Lettered line = ((length line ≡ 1) × (get_or line 0 0 ≡ 9 → ⊥)) ⊎ ((2 ≤ length line) × (get_or line 1 0 ≡ 9) × (get_or line 0 0 ≡ 9 → ⊥))

pub lettered : (line : List ℕ) (c : ℕ) → get_or (fields_of line) 0 [] ≡ c ∷ [] → Lettered line
lettered line c e = go (fields_of line) (fielded line).joined (fielded line).apart (fielded line).some e
  where
    go : (fs : List (List ℕ)) → line_of fs ≡ line → Apart fs → 0 < length fs → get_or fs 0 [] ≡ c ∷ [] → Lettered line
    go [] j a s e = absurd (omega arith)
    go (f ∷ []) j a s e = let l : line ≡ c ∷ [] = cc in inl (ap length l, λ z. ne (rw l at z))
      where
        ne : c ≡ 9 → ⊥
        ne = (subst (Lacks 9) e a.0).0
    go (f ∷ (g ∷ fs)) j a s e = let l : line ≡ c ∷ (9 ∷ line_of (g ∷ fs)) = cc in inr (rw l (omega arith), ap (λ xs. get_or xs 1 0) l, λ z. ne (rw l at z))
      where
        ne : c ≡ 9 → ⊥
        ne = (subst (Lacks 9) e a.0).0
