-- The first line of a file and the first field of a line, and what follows them.
use Rattle.std.proofs.Common.{◌≡◌, ℕ, ◌<◌, ◌≤◌, List, [], ◌∷◌, ◌++◌, length, Some, None, Option, sym, ap, refl, ◌∙◌, subst, arith}
use Rattle.std.specs.Option.{IfSome, MatchOption, is_some, unwrap_or, option_map}
use Rattle.std.specs.Iterator.{MakesProgress, item_count}
use Rattle.std.proofs.lemmas.List.{nil_from_length, append-nil, length-append}
use Rattle.lines.specs.Pieces.{lines_of, fields_of, fields_left, most_left, Lacks, Fielded}
use Rattle.lines.proofs.Laws.{lines_finished, last_unfinished, fields_then, fields_last, fielded}

pub no_line : (xs : List ℕ) → length xs ≡ 0 → lines_of xs ≡ []
no_line xs h = ap lines_of (nil_from_length xs h)

module _ {A : Type 0} (text : A → List ℕ) (xs piece : List ℕ) where
  pub first_line : (after : Option A) (other : A) → 0 < length xs → text other ≡ [] → Lacks 10 piece → MatchOption after (xs ≡ piece) (λ rest. xs ≡ piece ++ (10 ∷ text rest)) → (lines_of xs ≡ (piece, is_some after) ∷ lines_of (text (unwrap_or after other))) × (length (text (unwrap_or after other)) < length xs)
  first_line None other some none h e =
      let l = ap length e in
      let last = last_unfinished piece h (omega arith) in
      let nil = append-nil piece in
      let z = ap lines_of none in
      let k = ap length none in
      (cc, omega arith)
  first_line (Some rest) other some none h e = (ap lines_of e ∙ lines_finished piece (text rest) h, grind (arith, length-append))

  field_shorter : (after : Option A) → MatchOption after (xs ≡ piece) (λ rest. xs ≡ piece ++ (9 ∷ text rest)) → most_left (λ x. x) (option_map text after) ≤ length xs
  field_shorter None e = omega arith
  field_shorter (Some rest) e = grind (arith, length-append)

  pub first_field : (after : Option A) → Lacks 9 piece → MatchOption after (xs ≡ piece) (λ rest. xs ≡ piece ++ (9 ∷ text rest)) → fields_of xs ≡ piece ∷ fields_left text after
  first_field None h e = ap fields_of e ∙ fields_last piece h
  first_field (Some rest) h e = ap fields_of e ∙ fields_then piece (text rest) h

-- the same fields by their text, and by what holds it
pub left_same : {A : Type 0} (text : A → List ℕ) (rest : Option A) → fields_left (λ x. x) (option_map text rest) ≡ fields_left text rest
left_same text None = refl
left_same text (Some x) = refl

-- The first of the fields that are left is cut off; `seen` is the text of these.
pub next_field : {A : Type 0} (text : A → List ℕ) (rest : Option A) (seen : Option (List ℕ)) (first : A) (piece : List ℕ) (after : Option A) → option_map text rest ≡ seen → rest ≡ Some first → Lacks 9 piece → MatchOption after (text first ≡ piece) (λ more. text first ≡ piece ++ (9 ∷ text more)) → (fields_left (λ x. x) seen ≡ piece ∷ fields_left (λ x. x) (option_map text after)) × IfSome seen Fielded × (most_left (λ x. x) (option_map text after) < most_left text rest)
next_field text rest seen first piece after view is lacks parts =
    let one : Some (text first) ≡ seen = sym (ap (option_map text) is) ∙ view in
    (ap (fields_left (λ x. x)) (sym one) ∙ first_field text (text first) piece after lacks parts ∙ ap (λ fs. piece ∷ fs) (sym (left_same text after)), subst (λ o. IfSome o Fielded) one (fielded (text first)), rw is (omega (arith, field_shorter text (text first) piece after parts)))

pub one_fewer : {S A B : Type 0} (rest : S → List B) (s t : S) (x : A) (y : B) → rest s ≡ y ∷ rest t → MakesProgress (λ _. Unit {0}) (item_count rest) s (Some x) t
one_fewer rest s t x y e = record { on = λ _. (tt, tt, let l = ap length e in omega arith); keeps = tt; rests = λ _. tt }
