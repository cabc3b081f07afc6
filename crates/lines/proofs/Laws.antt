-- The lines of a file are the only ones that make it up, and the fields of a line.
use Rattle.std.proofs.Common.{◌≡◌, ◌==◌, cond, Option, Some, None, ◌+◌, ℕ, ◌<◌, ◌≤◌, Bool, true, false, eqb, ◌⊎◌, List, [], ◌∷◌, ◌++◌, length, take, get_or, ◌≢◌, length-take-le, sym, refl, ap, ◌∙◌, inl, inr, arith}
use Rattle.std.proofs.lemmas.List.{append-nil, get_or-take}
use Rattle.std.proofs.lemmas.List.Elements.{recursion_from_All, All-from_get_or}
use Rattle.std.proofs.lemmas.Bool.{eqb-true, eqb-false, ne_eqb}
use Rattle.lines.specs.Pieces.{RawLine, on_line, lines_of, on_field, fields_of, fields_left, most_left, Lacks, ending, file_of, Whole, Lined, line_of, Apart, Fielded}

-- a finished line, and an unfinished one, in front of what follows
pub lines_finished : (bs rest : List ℕ) → Lacks 10 bs → lines_of (bs ++ (10 ∷ rest)) ≡ (bs, true) ∷ lines_of rest
lines_finished [] rest h = refl
lines_finished (b ∷ bs) rest h = rw (ne_eqb b 10 h.0) (ap (on_line b) (lines_finished bs rest h.1))

lines_unfinished : (b : ℕ) (bs : List ℕ) → Lacks 10 (b ∷ bs) → lines_of (b ∷ bs) ≡ (b ∷ bs, false) ∷ []
lines_unfinished b [] h = rw (ne_eqb b 10 h.0) refl
lines_unfinished b (d ∷ ds) h = rw (ne_eqb b 10 h.0) (ap (on_line b) (lines_unfinished d ds h.1))

pub last_unfinished : (bs : List ℕ) → Lacks 10 bs → 0 < length bs → lines_of (bs ++ []) ≡ (bs, false) ∷ []
last_unfinished [] h some = absurd (omega arith)
last_unfinished (b ∷ bs) h some = ap lines_of (append-nil (b ∷ bs)) ∙ lines_unfinished b bs h

last_line : (bs : List ℕ) (f : Bool) → Lacks 10 bs → (f ≡ true) ⊎ (0 < length bs) → lines_of (bs ++ (ending f ++ [])) ≡ (bs, f) ∷ []
last_line bs true h e = lines_finished bs [] h
last_line bs false h (inl e) = let z : ◌≡◌ {A = ℕ} 0 1 = cc in absurd (omega arith)
last_line bs false h (inr some) = last_unfinished bs h some

next_line : (bs rest : List ℕ) (f : Bool) → Lacks 10 bs → f ≡ true → lines_of (bs ++ (ending f ++ rest)) ≡ (bs, f) ∷ lines_of rest
next_line bs rest true h e = lines_finished bs rest h
next_line bs rest false h e = let z : ◌≡◌ {A = ℕ} 0 1 = cc in absurd (omega arith)

pub lines_back : (ls : List RawLine) → Whole ls → lines_of (file_of ls) ≡ ls
lines_back [] h = refl
lines_back (l ∷ []) h = last_line l.0 l.1 h.0 h.1
lines_back (l ∷ (m ∷ ls)) h = next_line l.0 (file_of (m ∷ ls)) l.1 h.0 h.1 ∙ ap (λ t. l ∷ t) (lines_back (m ∷ ls) h.2)

file_front : (x : ℕ) (ls : List RawLine) → file_of (on_line x ls) ≡ x ∷ file_of ls
file_front x [] = refl
file_front x (l ∷ ls) = refl

file_more : (x : ℕ) (xs : List ℕ) (b : Bool) → eqb x 10 ≡ b → file_of (lines_of xs) ≡ xs → file_of (lines_of (x ∷ xs)) ≡ x ∷ xs
file_more x xs true e ih = let t : x ≡ 10 = eqb-true x 10 e in rw e (cc)
file_more x xs false e ih = rw e (file_front x (lines_of xs) ∙ ap (λ ys. x ∷ ys) ih)

file_back : (xs : List ℕ) → file_of (lines_of xs) ≡ xs
file_back [] = refl
file_back (x ∷ xs) = file_more x xs (eqb x 10) refl (file_back xs)

-- a file has no more lines than bytes, and a line at most one field more
few : {A : Type 0} (b : Bool) (first : A) (more on : List A) → length on ≤ length more + 1 → length (cond b (first ∷ more) on) ≤ length more + 1
few true first more on h = omega arith
few false first more on h = h

few_on_line : (x : ℕ) (ls : List RawLine) → length (on_line x ls) ≤ length ls + 1
few_on_line x [] = omega arith
few_on_line x (l ∷ ls) = omega arith

few_on_field : (x : ℕ) (fs : List (List ℕ)) → length (on_field x fs) ≤ length fs + 1
few_on_field x [] = omega arith
few_on_field x (f ∷ fs) = omega arith

pub few_lines : (xs : List ℕ) → length (lines_of xs) ≤ length xs
few_lines [] = omega arith
few_lines (x ∷ xs) = omega (arith, few_lines xs, few (x == 10) ([], true) (lines_of xs) _ (few_on_line x (lines_of xs)))

few_fields : (xs : List ℕ) → length (fields_of xs) ≤ length xs + 1
few_fields [] = omega arith
few_fields (x ∷ xs) = omega (arith, few_fields xs, few (x == 9) [] (fields_of xs) _ (few_on_field x (fields_of xs)))

pub few_left : {A : Type 0} (text : A → List ℕ) (rest : Option A) → length (fields_left text rest) ≤ most_left text rest
few_left text None = omega arith
few_left text (Some x) = few_fields (text x)

whole_ended : (ls : List RawLine) → Whole ls → Whole (([], true) ∷ ls)
whole_ended [] h = (tt, inl refl)
whole_ended (l ∷ ls) h = (tt, refl, h)

whole_front : (x : ℕ) (ls : List RawLine) → (x ≡ 10 → ⊥) → Whole ls → Whole (on_line x ls)
whole_front x [] ne h = ((ne, tt), inr (omega arith))
whole_front x (l ∷ []) ne h = ((ne, h.0), inr (omega arith))
whole_front x (l ∷ (m ∷ ls)) ne h = ((ne, h.0), h.1, h.2)

whole_more : (x : ℕ) (xs : List ℕ) (b : Bool) → eqb x 10 ≡ b → Whole (lines_of xs) → Whole (lines_of (x ∷ xs))
whole_more x xs true e ih = rw e (whole_ended (lines_of xs) ih)
whole_more x xs false e ih = rw e (whole_front x (lines_of xs) (eqb-false x 10 e) ih)

whole_lines : (xs : List ℕ) → Whole (lines_of xs)
whole_lines [] = tt
whole_lines (x ∷ xs) = whole_more x xs (eqb x 10) refl (whole_lines xs)

pub lined : (file : List ℕ) → Lined file
lined file = record { joined = file_back file; whole = whole_lines file; only = λ ls h e. sym (lines_back ls h) ∙ ap lines_of e }

-- the first field, in front of what follows
pub fields_then : (f rest : List ℕ) → Lacks 9 f → fields_of (f ++ (9 ∷ rest)) ≡ f ∷ fields_of rest
fields_then [] rest h = refl
fields_then (b ∷ bs) rest h = rw (ne_eqb b 9 h.0) (ap (on_field b) (fields_then bs rest h.1))

pub fields_last : (f : List ℕ) → Lacks 9 f → fields_of f ≡ f ∷ []
fields_last [] h = refl
fields_last (b ∷ bs) h = rw (ne_eqb b 9 h.0) (ap (on_field b) (fields_last bs h.1))

pub fields_back : (fs : List (List ℕ)) → 0 < length fs → Apart fs → fields_of (line_of fs) ≡ fs
fields_back [] some h = absurd (omega arith)
fields_back (f ∷ []) some h = fields_last f h.0
fields_back (f ∷ (g ∷ fs)) some h = fields_then f (line_of (g ∷ fs)) h.0 ∙ ap (λ t. f ∷ t) (fields_back (g ∷ fs) (omega arith) h.1)

line_front : (x : ℕ) (fs : List (List ℕ)) → line_of (on_field x fs) ≡ x ∷ line_of fs
line_front x [] = refl
line_front x (f ∷ []) = refl
line_front x (f ∷ (g ∷ fs)) = refl

line_ended : (fs : List (List ℕ)) → 0 < length fs → line_of ([] ∷ fs) ≡ 9 ∷ line_of fs
line_ended [] h = absurd (omega arith)
line_ended (f ∷ fs) h = refl

some_front : (x : ℕ) (fs : List (List ℕ)) → 0 < length (on_field x fs)
some_front x [] = omega arith
some_front x (f ∷ fs) = omega arith

some_more : (x : ℕ) (xs : List ℕ) (b : Bool) → eqb x 9 ≡ b → 0 < length (fields_of (x ∷ xs))
some_more x xs true e = rw e (omega arith)
some_more x xs false e = rw e (some_front x (fields_of xs))

pub some_fields : (xs : List ℕ) → 0 < length (fields_of xs)
some_fields [] = omega arith
some_fields (x ∷ xs) = some_more x xs (eqb x 9) refl

joined_more : (x : ℕ) (xs : List ℕ) (b : Bool) → eqb x 9 ≡ b → line_of (fields_of xs) ≡ xs → line_of (fields_of (x ∷ xs)) ≡ x ∷ xs
joined_more x xs true e ih = let t : x ≡ 9 = eqb-true x 9 e in let l = line_ended (fields_of xs) (some_fields xs) in rw e (cc)
joined_more x xs false e ih = rw e (line_front x (fields_of xs) ∙ ap (λ ys. x ∷ ys) ih)

pub line_back : (xs : List ℕ) → line_of (fields_of xs) ≡ xs
line_back [] = refl
line_back (x ∷ xs) = joined_more x xs (eqb x 9) refl (line_back xs)

apart_front : (x : ℕ) (fs : List (List ℕ)) → (x ≡ 9 → ⊥) → Apart fs → Apart (on_field x fs)
apart_front x [] ne h = ((ne, tt), tt)
apart_front x (f ∷ fs) ne h = ((ne, h.0), h.1)

apart_more : (x : ℕ) (xs : List ℕ) (b : Bool) → eqb x 9 ≡ b → Apart (fields_of xs) → Apart (fields_of (x ∷ xs))
apart_more x xs true e ih = rw e (tt, ih)
apart_more x xs false e ih = rw e (apart_front x (fields_of xs) (eqb-false x 9 e) ih)

apart_fields : (xs : List ℕ) → Apart (fields_of xs)
apart_fields [] = (tt, tt)
apart_fields (x ∷ xs) = apart_more x xs (eqb x 9) refl (apart_fields xs)

pub fielded : (line : List ℕ) → Fielded line
fielded line = record { some = some_fields line; joined = line_back line; apart = apart_fields line; only = λ fs s a e. sym (fields_back fs s a) ∙ ap fields_of e }

-- a list and a front of it lack a byte that stands at none of their positions
pub lacks_at_all : (stop n : ℕ) (xs : List ℕ) → length xs ≤ n → ((k : ℕ) → k < n → get_or xs k 0 ≢ stop) → Lacks stop xs
lacks_at_all stop n xs full h = recursion_from_All (λ y. y ≢ stop) xs (All-from_get_or (λ y. y ≢ stop) xs 0 (λ i l. h i (omega arith)))

pub lacks_in_front : (stop n : ℕ) (xs : List ℕ) → n ≤ length xs → ((k : ℕ) → k < n → get_or xs k 0 ≢ stop) → Lacks stop (take n xs)
lacks_in_front stop n xs fits h =
    let len : length (take n xs) ≡ n = length-take-le n xs fits in
    lacks_at_all stop n (take n xs) (omega arith) (λ k l e. h k l (sym (get_or-take n xs k 0 l) ∙ e))
