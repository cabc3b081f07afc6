-- A line says one thing or has one fault, and never both.
use Rattle.std.proofs.Common.{◌≡◌, ℕ, zero, suc, ◌<◌, true, ◌⊎◌, ◌≢◌, List, [], ◌∷◌, map, length, get_or, drop, Some, None, decimal, Option, sym, refl, ap, ◌∙◌, subst, inl, inr, arith}
use Rattle.std.proofs.lemmas.List.{length-map}
use Rattle.std.proofs.lemmas.List.Elements.{All-from_get_or, recursion_from_All}
use Rattle.std.proofs.lemmas.Bool.{cases_order}
use Rattle.lines.specs.Numbers.{Spelled}
use Rattle.lines.specs.Pieces.{RawLine, Lacks, fields_of, Apart}
use Rattle.lines.proofs.Laws.{fields_back}
use Rattle.lines.proofs.Numerals.{decimal_spelled, spells_one}
use Rattle.records.specs.declared.faults.TextFault.{TextFault}
use Rattle.records.specs.declared.faults.TextFault.TheVariants.{NoSize, UnknownLetter, WrongShape, NoNumber, SizeAgain}
use Rattle.records.specs.declared.Record.{Record}
use Rattle.records.specs.declared.Record.TheVariants.{Entry, Home, Way}
use Rattle.records.specs.declared.Size.{Size}
use Rattle.records.specs.Rendering.{line_text, size_numbers, letter_of, numbers_of, Small}
use Rattle.files.specs.Says.{SaysSize, SaysRecord, first_field, behind, size_letter, record_letter, Misshapen, BadField, NumbersFault, SizeFaultBy, SizeFault, RecordFaultBy, RecordFault}
use Rattle.files.proofs.Written.{line_of_numbers}

-- digits are no byte below 48
pub lacks_decimal : (x n : ℕ) → x < 48 → n < 10000 → Lacks x (decimal n)
lacks_decimal x n h s = recursion_from_All (λ y. y ≢ x) _ (All-from_get_or (λ y. y ≢ x) (decimal n) 0 (λ k l e. omega (arith, (decimal_spelled n s).digits k l)))

apart_numbers : (ns : List ℕ) → Small ns → Apart (map decimal ns)
apart_numbers [] h = tt
apart_numbers (n ∷ ns) h = (lacks_decimal 9 n (omega arith) h.0, apart_numbers ns h.1)

pub spelled_numbers : (ns : List ℕ) → Small ns → (k : ℕ) → k < length ns → Spelled (get_or (map decimal ns) k [])
spelled_numbers [] h k l = absurd (omega arith)
spelled_numbers (n ∷ ns) h zero l = decimal_spelled n h.0
spelled_numbers (n ∷ ns) h (suc k) l = spelled_numbers ns h.1 k (omega arith)

same_numbers : (ms ns : List ℕ) → Small ms → Small ns → map decimal ms ≡ map decimal ns → ms ≡ ns
same_numbers [] [] h k e = refl
same_numbers [] (n ∷ ns) h k e = let z : ◌≡◌ {A = ℕ} 0 1 = cc in absurd (omega arith)
same_numbers (m ∷ ms) [] h k e = let z : ◌≡◌ {A = ℕ} 0 1 = cc in absurd (omega arith)
same_numbers (m ∷ ms) (n ∷ ns) h k e =
    let d : decimal m ≡ decimal n = cc in
    let t : map decimal ms ≡ map decimal ns = cc in
    let i = spells_one (decimal m) m n (record { small = h.0; written = refl }) (record { small = k.0; written = d }) in
    let j = same_numbers ms ns h.1 k.1 t in
    cc

-- the fields of a line as it is written
pub fields_written : (letter : ℕ) (ns : List ℕ) → (letter ≡ 9 → ⊥) → Small ns → fields_of (line_text letter ns) ≡ (letter ∷ []) ∷ map decimal ns
fields_written letter ns ne h =
    ap fields_of (sym (line_of_numbers (letter ∷ []) ns)) ∙ fields_back ((letter ∷ []) ∷ map decimal ns) (omega arith) ((ne, tt), apart_numbers ns h)

shaped : (l : RawLine) (k : ℕ) → Misshapen k l → l.1 ≡ true → length (behind l) ≡ k → ⊥
shaped l k (inl u) fin c = let z : ◌≡◌ {A = ℕ} 0 1 = cc in omega arith
shaped l k (inr u) fin c = u c

-- such a line has none of the faults of its numbers
no_numbers_fault : (l : RawLine) (letter k n : ℕ) (ns : List ℕ) (f : TextFault) → l.1 ≡ true → fields_of l.0 ≡ (letter ∷ []) ∷ map decimal ns → Small ns → k ≡ length ns → NumbersFault k n l f → ⊥
no_numbers_fault l letter k n ns NoSize fin e h c x = x
no_numbers_fault l letter k n ns (UnknownLetter m) fin e h c x = x
no_numbers_fault l letter k n ns (SizeAgain m) fin e h c x = x
no_numbers_fault l letter k n ns (WrongShape m) fin e h c x =
    let b : behind l ≡ map decimal ns = ap (drop 1) e in
    shaped l k x.1 fin (ap length b ∙ length-map ns decimal ∙ sym c)
no_numbers_fault l letter k n ns (NoNumber m i) fin e h c x =
    let b : behind l ≡ map decimal ns = ap (drop 1) e in
    let y = x.1 in
    let t = y.there in
    y.bad (rw b (spelled_numbers ns h y.at (omega arith)))

numbers_fault_one : (l : RawLine) (k n : ℕ) (f g : TextFault) → NumbersFault k n l f → NumbersFault k n l g → f ≡ g
numbers_fault_one l k n NoSize g x y = absurd x
numbers_fault_one l k n (UnknownLetter m) g x y = absurd x
numbers_fault_one l k n (SizeAgain m) g x y = absurd x
numbers_fault_one l k n (WrongShape m) NoSize x y = absurd y
numbers_fault_one l k n (WrongShape m) (UnknownLetter o) x y = absurd y
numbers_fault_one l k n (WrongShape m) (SizeAgain o) x y = absurd y
numbers_fault_one l k n (WrongShape m) (WrongShape o) x y = ap WrongShape (x.0 ∙ sym y.0)
numbers_fault_one l k n (WrongShape m) (NoNumber o j) x y = absurd (shaped l k x.1 y.1.finished y.1.count)
numbers_fault_one l k n (NoNumber m i) NoSize x y = absurd y
numbers_fault_one l k n (NoNumber m i) (UnknownLetter o) x y = absurd y
numbers_fault_one l k n (NoNumber m i) (SizeAgain o) x y = absurd y
numbers_fault_one l k n (NoNumber m i) (WrongShape o) x y = absurd (shaped l k y.1 x.1.finished x.1.count)
numbers_fault_one l k n (NoNumber m i) (NoNumber o j) x y = go x.1 y.1
  where
    go : BadField k l i → BadField k l j → NoNumber m i ≡ NoNumber o j
    go a b = same (cases_order a.at b.at)
      where
        same : (a.at ≡ b.at) ⊎ ((a.at < b.at) ⊎ (b.at < a.at)) → NoNumber m i ≡ NoNumber o j
        same (inl e) = let p = x.0 in let q = y.0 in let u = a.field in let v = b.field in cc
        same (inr (inl h)) = absurd (a.bad (b.before a.at h))
        same (inr (inr h)) = absurd (b.bad (a.before b.at h))

-- the first line
size_fields : (l : RawLine) (s : Size) → SaysSize l s → fields_of l.0 ≡ (110 ∷ []) ∷ map decimal (size_numbers s)
size_fields l s h = ap (λ t. fields_of t.0) h.text ∙ fields_written 110 (size_numbers s) (λ e. omega arith) h.small

pub size_or_fault : (l : RawLine) (s : Size) (f : TextFault) → SaysSize l s → SizeFault l f → ⊥
size_or_fault l s f h x =
    let e = size_fields l s h in
    let k : size_letter (first_field l) ≡ Some 2 = ap (λ fs. size_letter (get_or fs 0 [])) e in
    no_numbers_fault l 110 2 1 (size_numbers s) f (ap (λ t. t.1) h.text) e h.small refl (subst (λ o. SizeFaultBy o l f) k x)

pub size_one : (l : RawLine) (s t : Size) → SaysSize l s → SaysSize l t → s ≡ t
size_one l s t h k =
    let a = size_fields l s h in
    let b = size_fields l t k in
    let e : map decimal (size_numbers s) ≡ map decimal (size_numbers t) = cc in
    same (same_numbers (size_numbers s) (size_numbers t) h.small k.small e)
  where
    same : size_numbers s ≡ size_numbers t → s ≡ t
    same e = sizes s.channels s.places t.channels t.places (cc) (cc)
      where
        sizes : (a b c d : ℕ) → a ≡ c → b ≡ d → ◌≡◌ {A = Size} (record { channels = a; places = b }) (record { channels = c; places = d })
        sizes a b c d p q = cc

size_fault_by : (l : RawLine) (o : Option ℕ) (f g : TextFault) → SizeFaultBy o l f → SizeFaultBy o l g → f ≡ g
size_fault_by l None f g x y = x ∙ sym y
size_fault_by l (Some k) f g x y = numbers_fault_one l k 1 f g x y

pub size_fault_one : (l : RawLine) (f g : TextFault) → SizeFault l f → SizeFault l g → f ≡ g
size_fault_one l f g x y = size_fault_by l (size_letter (first_field l)) f g x y

-- the later lines
-- the letters lie above the bytes 9 and 10
pub letter_above : (r : Record) → 10 < letter_of r
letter_above (Entry c d) = omega arith
letter_above (Home c d) = omega arith
letter_above (Way c d h) = omega arith

known : (r : Record) → record_letter (letter_of r ∷ []) ≡ Some (length (numbers_of r))
known (Entry c d) = refl
known (Home c d) = refl
known (Way c d h) = refl

record_fields : (l : RawLine) (r : Record) → SaysRecord l r → fields_of l.0 ≡ (letter_of r ∷ []) ∷ map decimal (numbers_of r)
record_fields l r h = ap (λ t. fields_of t.0) h.text ∙ fields_written (letter_of r) (numbers_of r) (λ e. let a = letter_above r in omega arith) h.small

pub record_or_fault : (n : ℕ) (l : RawLine) (r : Record) (f : TextFault) → SaysRecord l r → RecordFault n l f → ⊥
record_or_fault n l r f h x =
    let e = record_fields l r h in
    let k : record_letter (first_field l) ≡ Some (length (numbers_of r)) = ap (λ fs. record_letter (get_or fs 0 [])) e ∙ known r in
    no_numbers_fault l (letter_of r) (length (numbers_of r)) n (numbers_of r) f (ap (λ t. t.1) h.text) e h.small refl (subst (λ o. RecordFaultBy o n l f) k x)

same_record : (r q : Record) → letter_of r ≡ letter_of q → numbers_of r ≡ numbers_of q → r ≡ q
same_record (Entry a b) (Entry c d) e h = cc
same_record (Entry a b) (Home c d) e h = absurd (omega arith)
same_record (Entry a b) (Way c d g) e h = absurd (omega arith)
same_record (Home a b) (Entry c d) e h = absurd (omega arith)
same_record (Home a b) (Home c d) e h = cc
same_record (Home a b) (Way c d g) e h = absurd (omega arith)
same_record (Way a b f) (Entry c d) e h = absurd (omega arith)
same_record (Way a b f) (Home c d) e h = absurd (omega arith)
same_record (Way a b f) (Way c d g) e h = cc

pub record_one : (l : RawLine) (r q : Record) → SaysRecord l r → SaysRecord l q → r ≡ q
record_one l r q h k =
    let a = record_fields l r h in
    let b = record_fields l q k in
    let e : map decimal (numbers_of r) ≡ map decimal (numbers_of q) = cc in
    let d : letter_of r ≡ letter_of q = cc in
    same_record r q d (same_numbers (numbers_of r) (numbers_of q) h.small k.small e)

record_fault_by : (n : ℕ) (l : RawLine) (o : Option ℕ) (f g : TextFault) → RecordFaultBy o n l f → RecordFaultBy o n l g → f ≡ g
record_fault_by n l None f g (inl x) (inl y) = x.1 ∙ sym y.1
record_fault_by n l None f g (inl x) (inr y) = absurd (y.0 x.0)
record_fault_by n l None f g (inr x) (inl y) = absurd (x.0 y.0)
record_fault_by n l None f g (inr x) (inr y) = x.1 ∙ sym y.1
record_fault_by n l (Some k) f g x y = numbers_fault_one l k n f g x y

pub record_fault_one : (n : ℕ) (l : RawLine) (f g : TextFault) → RecordFault n l f → RecordFault n l g → f ≡ g
record_fault_one n l f g x y = record_fault_by n l (record_letter (first_field l)) f g x y
