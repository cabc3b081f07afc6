-- The fields behind a letter, read as numbers one after the other.
use Rattle.std.proofs.Common.{◌≡◌, ℕ, ◌+◌, ◌<◌, ◌≤◌, ◌&&◌, Bool, true, false, nat_eq, if◌then◌else◌, inl, inr, List, [], ◌∷◌, map, length, get_or, take, drop, decimal, sym, refl, ap, ◌∙◌, subst, arith, set}
use Rattle.std.proofs.lemmas.List.{take_more, take_more_set, map-append, drop_more, take_all, length-drop, length-take-le, length-set, get_or-take}
use Rattle.std.proofs.lemmas.List.Elements.{All-push, All-from_recursion, recursion_from_All}
use Rattle.std.proofs.lemmas.Bool.{eqb-true, eqb-false}
use Rattle.lines.specs.Numbers.{Spelled, Spells}
use Rattle.lines.specs.Pieces.{RawLine}
use Rattle.records.specs.declared.faults.TextFault.TheVariants.{NoNumber, WrongShape}
use Rattle.records.specs.Rendering.{Small}
use Rattle.files.specs.Says.{behind, HasNumbers, NumbersFault}
use Rattle.files.proofs.OneLine.{spelled_numbers}

-- The first `at` fields spell the numbers that stand first in `ns`, which has n; `left` are to come, of a line with `passed` fields before them.
pub record Numbered (fs : List (List ℕ)) (ns : List ℕ) (n at passed : ℕ) (left : List (List ℕ)) : Type 0 where
  pub same : length ns ≡ n
  pub reached : at ≤ length fs
  pub rest : left ≡ drop at fs
  pub place : passed ≡ at + 1
  pub spelled : take at fs ≡ map decimal (take at ns)
  pub small : Small (take at ns)

pub no_numbers : (fs : List (List ℕ)) (ns : List ℕ) (n passed : ℕ) {left : List (List ℕ)} → length ns ≡ n → left ≡ fs → passed ≡ 1 → Numbered fs ns n 0 passed left
no_numbers fs ns n passed s l p = record { same = s; reached = omega arith; rest = l; place = omega arith; spelled = refl; small = tt }

module _ (fs : List (List ℕ)) (ns : List ℕ) (n at passed : ℕ) (left : List (List ℕ)) (u : Numbered fs ns n at passed left) where
  -- how many fields there are
  pub total : length fs ≡ at + length left
  total =
      let k = ap length u.rest in
      let l = length-drop at fs in
      let r = u.reached in
      omega arith

  here : (f : List ℕ) (more : List (List ℕ)) → left ≡ f ∷ more → (get_or fs at [] ≡ f) × (drop (at + 1) fs ≡ more)
  here f more e =
      let d = ap length e in
      let t = total in
      let h : at < length fs = omega arith in
      let d = drop_more fs at [] h in
      let r = u.rest in
      (cc, cc)

  pub one_number_more : (f : List ℕ) (more : List (List ℕ)) (x later : ℕ) → at < n → left ≡ f ∷ more → Spells f x → later ≡ passed + 1 → Numbered fs (set ns at x) n (at + 1) later more
  one_number_more f more x later w e s p =
      let same = u.same in
      let i = here f more e in
      let d = ap length e in
      let t = total in
      let a = take_more fs at [] (omega arith) in
      let b = take_more_set ns at x (omega arith) in
      let m = map-append decimal (take at ns) (x ∷ []) in
      let g = u.spelled in
      let q = s.written in
      record {
        same = length-set ns at x ∙ same;
        reached = omega arith;
        rest = sym i.1;
        place = let q = u.place in omega arith;
        spelled = cc;
        small = subst Small (sym b) (let a = u.small in let b = s.small in search (All-push, All-from_recursion, recursion_from_All));
      }

  -- the next field spells no number
  no_number : (l : RawLine) (f : List ℕ) (more : List (List ℕ)) (line i : ℕ) → at < n → length fs ≡ n → l.1 ≡ true → behind l ≡ fs → left ≡ f ∷ more → (Spelled f → ⊥) → i ≡ passed + 1 → NumbersFault n line l (NoNumber line i)
  no_number l f more line i w count fin is e bad p =
      let same = u.same in
      let h = here f more e in
      let k : length (take at ns) ≡ at = length-take-le at ns (omega arith) in
      let before : (j : ℕ) → j < at → Spelled (get_or fs j []) = λ j lt.
      subst Spelled (sym (ap (λ xs. get_or xs j []) u.spelled) ∙ get_or-take at fs j [] lt) (spelled_numbers (take at ns) u.small j (omega arith)) in
      (refl, record { finished = fin; count = ap length is ∙ count; at = at; field = let q = u.place in omega arith; there = w; bad = λ s. bad (subst Spelled h.0 (rw is at s)); before = rw is before })

  -- what is wrong then
  pub bad_number : (l : RawLine) (f : List ℕ) (more : List (List ℕ)) (line i : ℕ) → at < n → behind l ≡ fs → left ≡ f ∷ more → (Spelled f → ⊥) → i ≡ passed + 1 → NumbersFault n line l (if l.1 && nat_eq (at + 1 + length more) n then NoNumber line i else WrongShape line)
  bad_number l f more line i w is e bad p = go (l.1) refl (nat_eq (at + 1 + length more) n) refl
    where
      size : length fs ≡ at + 1 + length more
      size = let d = ap length e in let t = total in omega arith

      go : (b : Bool) → l.1 ≡ b → (d : Bool) → nat_eq (at + 1 + length more) n ≡ d → NumbersFault n line l (if b && d then NoNumber line i else WrongShape line)
      go true fin true c = no_number l f more line i w (size ∙ eqb-true (at + 1 + length more) n c) fin is e bad p
      go true fin false c = (refl, inr (λ k. eqb-false (at + 1 + length more) n c (sym size ∙ sym (ap length is) ∙ k)))
      go false fin d c = (refl, inl fin)

  -- there are fewer fields, and more of them
  pub too_few : (l : RawLine) (line : ℕ) → at < n → behind l ≡ fs → left ≡ [] → NumbersFault n line l (WrongShape line)
  too_few l line w is e = (refl, inr (λ c. let t = total in let d = ap length e in let k = ap length is in omega arith))

  pub too_many : (l : RawLine) (f : List ℕ) (more : List (List ℕ)) (line : ℕ) → at ≡ n → behind l ≡ fs → left ≡ f ∷ more → NumbersFault n line l (WrongShape line)
  too_many l f more line w is e = (refl, inr (λ c. let t = total in let d = ap length e in let k = ap length is in omega arith))

  pub all_numbers : (l : RawLine) → at ≡ n → l.1 ≡ true → behind l ≡ fs → left ≡ [] → HasNumbers l ns
  all_numbers l w fin is e =
      let t = total in
      let d = ap length e in
      let same = u.same in
      let g = u.spelled in
      let a = take_all at fs (omega arith) in
      let b = take_all at ns (omega arith) in
      record { finished = fin; fields = cc; small = subst Small b u.small }
