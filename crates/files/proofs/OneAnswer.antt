-- A file says one thing or has one fault, and never both.
use Rattle.std.proofs.Common.{◌≡◌, ◌≢◌, ℕ, suc, ◌+◌, true, List, [], ◌∷◌, ◌++◌, map, length, Ok, Err, Result, sym, refl, ap, ◌∙◌, arith}
use Rattle.std.proofs.lemmas.List.{append_assoc}
use Rattle.std.proofs.lemmas.List.Elements.{All-append, All-from_recursion, recursion_from_All}
use Rattle.std.specs.List.{flat_map}
use Rattle.lines.specs.Pieces.{RawLine, Lacks, lines_of}
use Rattle.lines.proofs.Laws.{lines_finished}
use Rattle.records.specs.declared.faults.TextFault.{TextFault}
use Rattle.files.specs.declared.judging.Summary.{Summary}
use Rattle.records.specs.declared.Record.{Record}
use Rattle.records.specs.declared.Size.{Size}
use Rattle.files.specs.Answers.{summary, Answers, Sole}
use Rattle.records.specs.Rendering.{numbers_text, size_numbers, numbers_of, size_text, record_text, finished, Small, AllSmall}
use Rattle.files.specs.Says.{SaysSize, SayRecords, RecordFault, Reads, FileFault, empty, first, later}
use Rattle.files.proofs.OneLine.{letter_above, lacks_decimal, size_or_fault, size_one, size_fault_one, record_or_fault, record_one, record_fault_one}

lacks_numbers : (ns : List ℕ) → Small ns → Lacks 10 (numbers_text ns)
lacks_numbers [] h = tt
lacks_numbers (n ∷ ns) h =
    let front = All-from_recursion (λ y. y ≢ 10) _ (lacks_decimal 10 n (omega arith) h.0) in
    let back = All-from_recursion (λ y. y ≢ 10) _ (lacks_numbers ns h.1) in
    ((λ e. omega arith), recursion_from_All (λ y. y ≢ 10) _ (All-append (λ y. y ≢ 10) _ _ front back))

-- the first line of a text, where that holds no byte 10 itself
line_written : (line rest : List ℕ) → Lacks 10 line → lines_of (finished line ++ rest) ≡ (line, true) ∷ lines_of rest
line_written line rest h = ap lines_of (append_assoc line (10 ∷ []) rest) ∙ lines_finished line rest h

-- the lines of records as they are written
abbrev pub rows : List Record → List RawLine
rows rs = map (λ r. (record_text r, true)) rs

pub rows_say : (rs : List Record) → AllSmall rs → SayRecords (rows rs) rs
rows_say [] h = tt
rows_say (r ∷ rs) h = (record { text = refl; small = h.0 }, rows_say rs h.1)

rows_written : (rs : List Record) → AllSmall rs → lines_of (flat_map (λ r. finished (record_text r)) rs) ≡ rows rs
rows_written [] h = refl
rows_written (r ∷ rs) h =
    line_written (record_text r) (flat_map (λ q. finished (record_text q)) rs) ((λ e. let a = letter_above r in omega arith), lacks_numbers (numbers_of r) h.0) ∙ ap (λ ls. (record_text r, true) ∷ ls) (rows_written rs h.1)

pub lines_read : (file : List ℕ) (s : Size) (rs : List Record) → Reads file s rs → lines_of file ≡ (size_text s, true) ∷ rows rs
lines_read file s rs h =
    ap lines_of h.text ∙ line_written (size_text s) (flat_map (λ q. finished (record_text q)) rs) ((λ e. omega arith), lacks_numbers (size_numbers s) h.size_small) ∙ ap (λ ls. (size_text s, true) ∷ ls) (rows_written rs h.small)

pub size_read : (file : List ℕ) (s : Size) (rs : List Record) → Reads file s rs → SaysSize (size_text s, true) s
size_read file s rs h = record { text = refl; small = h.size_small }

pub say_one : (ls : List RawLine) (rs qs : List Record) → SayRecords ls rs → SayRecords ls qs → rs ≡ qs
say_one [] [] [] h k = refl
say_one [] [] (q ∷ qs) h k = absurd k
say_one [] (r ∷ rs) qs h k = absurd h
say_one (l ∷ ls) [] qs h k = absurd h
say_one (l ∷ ls) (r ∷ rs) [] h k = absurd k
say_one (l ∷ ls) (r ∷ rs) (q ∷ qs) h k = let a = record_one l r q h.0 k.0 in let b = say_one ls rs qs h.1 k.1 in cc

pub reads_one : (file : List ℕ) (s t : Size) (rs qs : List Record) → Reads file s rs → Reads file t qs → (s ≡ t) × (rs ≡ qs)
reads_one file s t rs qs h k =
    let a = lines_read file s rs h in
    let b = lines_read file t qs k in
    let e : ◌≡◌ {A = RawLine} (size_text s, true) (size_text t, true) = cc in
    let d : rows rs ≡ rows qs = cc in (
      size_one (size_text s, true) s t (size_read file s rs h) (rw e (size_read file t qs k)),
      say_one (rows rs) rs qs (rows_say rs h.small) (rw d (rows_say qs k.small)),
    )

-- no line of those that say records has a fault
no_bad_row : (n : ℕ) (ls good rest : List RawLine) (bad : RawLine) (rs : List Record) (f : TextFault) → SayRecords ls rs → ls ≡ good ++ (bad ∷ rest) → RecordFault n bad f → ⊥
no_bad_row n [] [] rest bad rs f h e x = let z : ◌≡◌ {A = ℕ} 0 1 = cc in omega arith
no_bad_row n [] (g ∷ good) rest bad rs f h e x = let z : ◌≡◌ {A = ℕ} 0 1 = cc in omega arith
no_bad_row n (l ∷ ls) good rest bad [] f h e x = h
no_bad_row n (l ∷ ls) [] rest bad (r ∷ rs) f h e x = let i : l ≡ bad = cc in record_or_fault n bad r f (rw i at h.0) x
no_bad_row n (l ∷ ls) (g ∷ good) rest bad (r ∷ rs) f h e x = let i : ls ≡ good ++ (bad ∷ rest) = cc in no_bad_row n ls good rest bad rs f h.1 i x

pub reads_or_fault : (file : List ℕ) (s : Size) (rs : List Record) (f : TextFault) → Reads file s rs → FileFault file f → ⊥
reads_or_fault file s rs f h (empty e i) = let a = lines_read file s rs h in let z : ◌≡◌ {A = ℕ} 0 1 = cc in omega arith
reads_or_fault file s rs f h (first l ls e x) =
    let a = lines_read file s rs h in
    let i : l ≡ (size_text s, true) = cc in
    size_or_fault (size_text s, true) s f (size_read file s rs h) (rw i at x)
reads_or_fault file s rs f h (later l bad good rest t qs e k m x) =
    let a = lines_read file s rs h in
    let i : rows rs ≡ good ++ (bad ∷ rest) = cc in
    no_bad_row (length good + 2) (rows rs) good rest bad rs f (rows_say rs h.small) i x

-- the first faulty line is one, and so is its fault
first_bad_one : (n : ℕ) (good good' rest rest' : List RawLine) (bad bad' : RawLine) (rs rs' : List Record) (f g : TextFault) → good ++ (bad ∷ rest) ≡ good' ++ (bad' ∷ rest') → SayRecords good rs → SayRecords good' rs' → RecordFault (length good + n) bad f → RecordFault (length good' + n) bad' g → f ≡ g
first_bad_one n [] [] rest rest' bad bad' rs rs' f g e h h' x y = let i : bad ≡ bad' = cc in record_fault_one (0 + n) bad' f g (rw i at x) y
first_bad_one n [] (b ∷ good') rest rest' bad bad' rs [] f g e h h' x y = absurd h'
first_bad_one n [] (b ∷ good') rest rest' bad bad' rs (r ∷ rs') f g e h h' x y = let i : bad ≡ b = cc in absurd (record_or_fault (0 + n) b r f h'.0 (rw i at x))
first_bad_one n (a ∷ good) good' rest rest' bad bad' [] rs' f g e h h' x y = absurd h
first_bad_one n (a ∷ good) [] rest rest' bad bad' (r ∷ rs) rs' f g e h h' x y = let i : bad' ≡ a = cc in absurd (record_or_fault (0 + n) a r g h.0 (rw i at y))
first_bad_one n (a ∷ good) (b ∷ good') rest rest' bad bad' (r ∷ rs) [] f g e h h' x y = absurd h'
first_bad_one n (a ∷ good) (b ∷ good') rest rest' bad bad' (r ∷ rs) (q ∷ rs') f g e h h' x y =
    let i : good ++ (bad ∷ rest) ≡ good' ++ (bad' ∷ rest') = cc in
    let u : length (a ∷ good) + n ≡ length good + suc n = omega arith in
    let v : length (b ∷ good') + n ≡ length good' + suc n = omega arith in
    first_bad_one (suc n) good good' rest rest' bad bad' rs rs' f g i h.1 h'.1 (rw u at x) (rw v at y)

pub fault_one : (file : List ℕ) (f g : TextFault) → FileFault file f → FileFault file g → f ≡ g
fault_one file f g (empty e i) (empty d j) = i ∙ sym j
fault_one file f g (empty e i) (first l ls d y) = let z : ◌≡◌ {A = ℕ} 0 1 = cc in absurd (omega arith)
fault_one file f g (empty e i) (later l bad good rest t qs d k m y) = let z : ◌≡◌ {A = ℕ} 0 1 = cc in absurd (omega arith)
fault_one file f g (first l ls e x) (empty d j) = let z : ◌≡◌ {A = ℕ} 0 1 = cc in absurd (omega arith)
fault_one file f g (first l ls e x) (first l' ls' d y) = let i : l ≡ l' = cc in size_fault_one l' f g (rw i at x) y
fault_one file f g (first l ls e x) (later l' bad good rest t qs d k m y) = let i : l ≡ l' = cc in absurd (size_or_fault l' t f k (rw i at x))
fault_one file f g (later l bad good rest s rs e k m x) (empty d j) = let z : ◌≡◌ {A = ℕ} 0 1 = cc in absurd (omega arith)
fault_one file f g (later l bad good rest s rs e k m x) (first l' ls' d y) = let i : l' ≡ l = cc in absurd (size_or_fault l s g k (rw i at y))
fault_one file f g (later l bad good rest s rs e k m x) (later l' bad' good' rest' t qs d k' m' y) =
    let i : good ++ (bad ∷ rest) ≡ good' ++ (bad' ∷ rest') = cc in
    first_bad_one 2 good good' rest rest' bad bad' rs qs f g i m m' x y

same_answer : (s t : Size) (rs qs : List Record) → s ≡ t → rs ≡ qs → summary s rs ≡ summary t qs
same_answer s t rs qs e h = rw (e, h) refl

pub sole : (file : List ℕ) (r : Result Summary TextFault) → Answers file r → Sole file r
sole file (Ok a) h =
    record {
      reads = λ s rs k. let e = reads_one file h.0 s h.1 rs h.2 k in ap Ok (h.3 ∙ same_answer h.0 s h.1 rs e.0 e.1);
      faults = λ f x. absurd (reads_or_fault file h.0 h.1 f h.2 x);
      one = reads_one file;
    }
sole file (Err f) h =
    record {
      reads = λ s rs k. absurd (reads_or_fault file s rs f k h);
      faults = λ g x. ap Err (fault_one file f g h x);
      one = reads_one file;
    }
