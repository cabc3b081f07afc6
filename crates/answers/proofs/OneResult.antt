-- A file is a result in one way, or bad in one way.
use Rattle.std.proofs.Common.{◌≡◌, ℕ, zero, suc, ◌+◌, ◌-◌, ◌<◌, ◌≤◌, ◌⊎◌, Option, List, [], ◌∷◌, ◌++◌, length, take, count_by, cond, nat_eq, slice_index, refl, sym, ap, ◌∙◌, subst, inl, inr, below_more, arith}
use Rattle.std.proofs.lemmas.List.{append_assoc}
use Rattle.std.proofs.lemmas.List.Recursion.{is_count_by}
use Rattle.numbering.specs.Numbers.{held_number}
use Rattle.numbering.specs.Outcomes.{count_held}
use Rattle.loads.specs.Loads.{packet}
use Rattle.loads.specs.declared.LoadRecord.{LoadRecord}
use Rattle.checks.specs.declared.outcome.Check.{Check}
use Rattle.answers.specs.Prints.{verdict_line, channel_line, channel_lines}
use Rattle.answers.specs.Results.{Said, Begins, Agrees, IsResult, NoResult, verdict, channel, more, first}
use Rattle.answers.specs.Rows.{Opening, Claim}
use Rattle.answers.proofs.Rows.{opening_one, claim_one}

module _ (file : List ℕ) (k : Check) (numbers : List ℕ) (load : List LoadRecord) where
  -- a line in front of the rest
  line : ℕ → List ℕ → List ℕ
  line c rest = channel_line c (slice_index numbers c) (packet load c) ++ rest

  fewer : (c : ℕ) (rest : List ℕ) → Begins file k (suc c) numbers load rest → Begins file k c numbers load (line c rest)
  unfolding line channel_lines
  fewer c rest b =
      record {
        line = b.line;
        said = λ i l. b.said i (omega arith);
        text = b.text ∙ ap (λ t. verdict_line k ++ t) (append_assoc (channel_lines numbers load c) (channel_line c (slice_index numbers c) (packet load c)) rest);
      }

  claims : (c : ℕ) (rest : List ℕ) → Begins file k (suc c) numbers load rest → Claim (line c rest) c (slice_index numbers c) (packet load c) rest
  unfolding line
  claims c rest b = record { said = b.said c (omega arith); text = refl }

  begun : (rest : List ℕ) → Begins file k 0 numbers load rest → Opening file k rest
  unfolding channel_lines
  begun rest b = record { short = b.line; text = b.text }

  down : (i c e : ℕ) (rest : List ℕ) → e ≡ c + i → Begins file k e numbers load rest → (r : List ℕ) × Begins file k c numbers load r
  down zero c e rest same b = let at : e ≡ c = omega arith in (rest, subst (λ m. Begins file k m numbers load rest) at b)
  down (suc i) c e rest same b =
      let at : e ≡ suc (c + i) = omega arith in
      down i c (c + i) (line (c + i) rest) refl (fewer (c + i) rest (subst (λ m. Begins file k m numbers load rest) at b))

  -- the line of each channel that the file begins with
  reached : (c e : ℕ) (rest : List ℕ) → c < e → Begins file k e numbers load rest → (r : List ℕ) × (later : List ℕ) × Begins file k c numbers load r × Claim r c (slice_index numbers c) (packet load c) later
  reached c e rest l b =
      let at : e ≡ suc c + (e - suc c) = omega arith in
      let d = down (e - suc c) (suc c) e rest at b in
      (line c d.0, d.0, fewer c d.0 d.1, claims c d.0 d.1)

-- Two ways in which a file begins are one.
pub record SameBegin (c : ℕ) (one other : Check) (numbers numbers' : List ℕ) (load load' : List LoadRecord) (rest rest' : List ℕ) : Type 0 where
  pub check : one ≡ other
  pub left : rest ≡ rest'
  pub words : (i : ℕ) → i < c → slice_index numbers i ≡ slice_index numbers' i
  pub packets : (i : ℕ) → i < c → packet load i ≡ packet load' i

module _ (file : List ℕ) (k k' : Check) (numbers numbers' : List ℕ) (load load' : List LoadRecord) where
  begins_one : (c : ℕ) (rest rest' : List ℕ) → c < 10000 → Begins file k c numbers load rest → Begins file k' c numbers' load' rest' → SameBegin c k k' numbers numbers' load load' rest rest'
  begins_one zero rest rest' l b d =
      let s = opening_one file k k' rest rest' (begun file k numbers load rest b) (begun file k' numbers' load' rest' d) in
      record { check = s.0; left = s.1; words = λ i h. absurd (omega arith); packets = λ i h. absurd (omega arith) }
  begins_one (suc c) rest rest' l b d =
      let s = begins_one c _ _ (omega arith) (fewer file k numbers load c rest b) (fewer file k' numbers' load' c rest' d) in
      let x = claims file k numbers load c rest b in
      let y = subst (λ t. Claim t c (slice_index numbers' c) (packet load' c) rest') (sym s.left) (claims file k' numbers' load' c rest' d) in
      let e = claim_one _ c (slice_index numbers c) (slice_index numbers' c) (packet load c) (packet load' c) rest rest' (omega arith) x y in
      record {
        check = s.check;
        left = e.rest;
        words = λ i h. below_more (λ j. slice_index numbers j ≡ slice_index numbers' j) c s.words e.word i (omega arith);
        packets = λ i h. below_more (λ j. packet load j ≡ packet load' j) c s.packets e.place i (omega arith);
      }

  -- a file that begins with more lines has a line where another reading finds none
  stuck : (c e : ℕ) (rest rest' : List ℕ) → c < 10000 → Begins file k c numbers load rest → ((word : ℕ) (place : Option ℕ) (later : List ℕ) → Said word place → rest ≡ channel_line c word place ++ later → ⊥) → c < e → Begins file k' e numbers' load' rest' → ⊥
  stuck c e rest rest' l b none h d =
      let (r, later, x, y) = reached file k' numbers' load' c e rest' h d in
      let s = begins_one c rest r l b x in
      none (slice_index numbers' c) (packet load' c) later y.said (s.left ∙ y.text)

-- how many words of a list say that a channel is held
holding : List ℕ → ℕ
holding [] = 0
holding (x ∷ xs) = cond (nat_eq x held_number) (1 + holding xs) (holding xs)

counted : (xs : List ℕ) → holding xs ≡ count_by (λ word. nat_eq word held_number) xs
unfolding holding
counted xs = is_count_by holding (λ word. nat_eq word held_number) refl (λ x ys. refl) xs

none_taken : (n : ℕ) → take {A = ℕ} n [] ≡ []
none_taken zero = refl
none_taken (suc n) = refl

holding_same : (n : ℕ) (xs ys : List ℕ) → ((c : ℕ) → c < n → slice_index xs c ≡ slice_index ys c) → holding (take n xs) ≡ holding (take n ys)
unfolding holding
holding_same zero xs ys same = refl
holding_same (suc n) [] [] same = refl
holding_same (suc n) [] (y ∷ ys) same =
    let z : 0 ≡ y = same 0 (omega arith) in
    let later = holding_same n [] ys (λ c l. same (suc c) (omega arith)) in
    rw (← z) (ap holding (sym (none_taken n)) ∙ later)
holding_same (suc n) (x ∷ xs) [] same =
    let z : x ≡ 0 = same 0 (omega arith) in
    let later = holding_same n xs [] (λ c l. same (suc c) (omega arith)) in
    rw z (later ∙ ap holding (none_taken n))
holding_same (suc n) (x ∷ xs) (y ∷ ys) same =
    let z : x ≡ y = same 0 (omega arith) in
    let later = holding_same n xs ys (λ c l. same (suc c) (omega arith)) in
    λ i. cond (nat_eq (z i) held_number) (1 + later i) (later i)

count_same : (n : ℕ) (xs ys : List ℕ) → ((c : ℕ) → c < n → slice_index xs c ≡ slice_index ys c) → count_held n xs ≡ count_held n ys
count_same n xs ys same = sym (counted (take n xs)) ∙ holding_same n xs ys same ∙ counted (take n ys)

agrees_same : (n : ℕ) (numbers numbers' : List ℕ) (k m : Check) → k ≡ m → ((c : ℕ) → c < n → slice_index numbers c ≡ slice_index numbers' c) → Agrees n numbers k → Agrees n numbers' m
agrees_same n numbers numbers' k m e same x = subst (Agrees n numbers') e there
  where
    go : (k.numbering.greatest ≡ 0) ⊎ ((c : ℕ) × (c < n) × (slice_index numbers c ≡ held_number → ⊥) × (slice_index numbers c ≡ k.numbering.greatest)) → (k.numbering.greatest ≡ 0) ⊎ ((c : ℕ) × (c < n) × (slice_index numbers' c ≡ held_number → ⊥) × (slice_index numbers' c ≡ k.numbering.greatest))
    go (inl z) = inl z
    go (inr (c, h, ne, f)) = inr (c, h, (λ g. ne (same c h ∙ g)), sym (same c h) ∙ f)

    there : Agrees n numbers' k
    there =
        record {
          held = x.held ∙ count_same n numbers numbers' same;
          free = x.free;
          greatest = record { none_above = λ c h ne. rw (same c h) at (x.greatest.none_above c h (λ f. ne (sym (same c h) ∙ f))); given = go x.greatest.given };
        }

module _ (n : ℕ) (few : n < 10000) (file : List ℕ) where
  pub result_one : (k k' : Check) (numbers numbers' : List ℕ) (load load' : List LoadRecord) → IsResult n file k numbers load → IsResult n file k' numbers' load' → SameBegin n k k' numbers numbers' load load' [] []
  result_one k k' numbers numbers' load load' x y = begins_one file k k' numbers numbers' load load' n [] [] few x.begins y.begins

  over : (k k' : Check) (numbers numbers' : List ℕ) (load load' : List LoadRecord) (rest : List ℕ) → Begins file k n numbers load rest → 1 ≤ length rest → Begins file k' n numbers' load' [] → ⊥
  over k k' numbers numbers' load load' rest b some d = let e = ap length (begins_one file k k' numbers numbers' load load' n rest [] few b d).left in omega arith

  pub result_or_bad : (k : Check) (numbers : List ℕ) (load : List LoadRecord) (a i : ℕ) → IsResult n file k numbers load → NoResult n file a i → ⊥
  result_or_bad k numbers load a i x (verdict h) = h k _ x.begins.line x.begins.text
  result_or_bad k numbers load a i x (channel c l k' numbers' load' rest b none) = stuck file k' k numbers' numbers load' load c n rest [] (omega arith) b none l x.begins
  result_or_bad k numbers load a i x (more k' numbers' load' rest b some) = over k' k numbers' numbers load' load rest b some x.begins
  result_or_bad k numbers load a i x (first k' numbers' load' b never) =
      let s = begins_one file k k' numbers numbers' load load' n [] [] few x.begins b in
      never (agrees_same n numbers numbers' k k' s.check s.words x.agrees)

  pub bad_one : (a i b j : ℕ) → NoResult n file a i → NoResult n file b j → (a ≡ b) × (i ≡ j)
  bad_one a i b j (verdict h) (verdict g) = (refl, refl)
  bad_one a i b j (verdict h) (channel c l k numbers load rest d none) = absurd (h k _ d.line d.text)
  bad_one a i b j (verdict h) (more k numbers load rest d some) = absurd (h k _ d.line d.text)
  bad_one a i b j (verdict h) (first k numbers load d never) = absurd (h k _ d.line d.text)
  bad_one a i b j (channel c l k numbers load rest d none) (verdict h) = absurd (h k _ d.line d.text)
  bad_one a i b j (channel c l k numbers load rest d none) (channel e m k' numbers' load' rest' d' none') =
      let up : c < e → ⊥ = λ h. stuck file k k' numbers numbers' load load' c e rest rest' (omega arith) d none h d' in
      let down : e < c → ⊥ = λ h. stuck file k' k numbers' numbers load' load e c rest' rest (omega arith) d' none' h d in
      (refl, omega (arith, up, down))
  bad_one a i b j (channel c l k numbers load rest d none) (more k' numbers' load' rest' d' some) = absurd (stuck file k k' numbers numbers' load load' c n rest rest' (omega arith) d none l d')
  bad_one a i b j (channel c l k numbers load rest d none) (first k' numbers' load' d' never) = absurd (stuck file k k' numbers numbers' load load' c n rest [] (omega arith) d none l d')
  bad_one a i b j (more k numbers load rest d some) (verdict h) = absurd (h k _ d.line d.text)
  bad_one a i b j (more k numbers load rest d some) (channel c l k' numbers' load' rest' d' none) = absurd (stuck file k' k numbers' numbers load' load c n rest' rest (omega arith) d' none l d)
  bad_one a i b j (more k numbers load rest d some) (more k' numbers' load' rest' d' some') = (refl, refl)
  bad_one a i b j (more k numbers load rest d some) (first k' numbers' load' d' never) = absurd (over k k' numbers numbers' load load' rest d some d')
  bad_one a i b j (first k numbers load d never) (verdict h) = absurd (h k _ d.line d.text)
  bad_one a i b j (first k numbers load d never) (channel c l k' numbers' load' rest' d' none) = absurd (stuck file k' k numbers' numbers load' load c n rest' [] (omega arith) d' none l d)
  bad_one a i b j (first k numbers load d never) (more k' numbers' load' rest' d' some) = absurd (over k' k numbers' numbers load' load rest' d' some d)
  bad_one a i b j (first k numbers load d never) (first k' numbers' load' d' never') = (refl, refl)
