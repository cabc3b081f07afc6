-- A file is accepted with one size and one list of records, or has one fault, and never both.
use Rattle.std.proofs.Common.{◌≡◌, ℕ, ◌+◌, true, List, [], ◌∷◌, ◌++◌, length, take, drop, sym, refl, ap, ◌∙◌, subst, arith}
use Rattle.std.proofs.lemmas.List.{take_at}
use Rattle.lines.specs.Pieces.{RawLine, lines_of}
use Rattle.records.specs.declared.Record.{Record}
use Rattle.records.specs.declared.Size.{Size}
use Rattle.records.specs.Rendering.{size_text, file_text}
use Rattle.records.specs.Writes.{Wrote}
use Rattle.files.specs.Says.{SaysSize, SaysRecord, SayRecords, Reads}
use Rattle.files.proofs.OneAnswer.{rows, rows_say, say_one, lines_read, size_read, reads_one}
use Rattle.files.proofs.OneLine.{size_or_fault, size_one, size_fault_one, record_or_fault, record_one, record_fault_one}
use Rattle.networks.specs.declared.faults.TableFault.{TableFault}
use Rattle.networks.specs.declared.faults.TableFault.TheVariants.{Text, NoMemory}
use Rattle.tables.specs.Drawn.{drawn}
use Rattle.tables.specs.Makes.{SizeFits, SizeMisfit, Fit, Takes, Misfit}
use Rattle.tables.proofs.OneAnswer.{Parted, same, before, after, parted, fit_takes, takes_or_misfit, misfit_one, size_or_misfit, size_misfit_one}
use Rattle.netfiles.specs.Reading as reading
use Rattle.netfiles.specs.Reading.{Accepted, FirstLine, LaterLine, Refused, empty, first, later, many, Wanting, OneReading}

-- A first line that says a size within the limits has no fault, and any other has one at most.
first_or_good : (l : RawLine) (s : Size) (f : TableFault) → SaysSize l s → SizeFits s → FirstLine l f → ⊥
first_or_good l s f says fits (reading.text t x e) = size_or_fault l s t says x
first_or_good l s f says fits (reading.size s' says' m) = size_or_misfit s f fits (subst (λ (z : Size). SizeMisfit z f) (size_one l s' s says' says) m)

first_line_one : (l : RawLine) (f g : TableFault) → FirstLine l f → FirstLine l g → f ≡ g
first_line_one l f g (reading.text t x e) (reading.text t' x' e') = e ∙ ap Text (size_fault_one l t t' x x') ∙ sym e'
first_line_one l f g (reading.text t x e) (reading.size s says m) = absurd (size_or_fault l s t says x)
first_line_one l f g (reading.size s says m) (reading.text t x e) = absurd (size_or_fault l s t says x)
first_line_one l f g (reading.size s says m) (reading.size s' says' m') = size_misfit_one s f g m (subst (λ (z : Size). SizeMisfit z g) (size_one l s' s says' says) m')

-- The same of a later line, behind the same records.
later_or_good : (s : Size) (rs : List Record) (n : ℕ) (l : RawLine) (r : Record) (f : TableFault) → SaysRecord l r → Takes (drawn s rs) r → LaterLine s rs n l f → ⊥
later_or_good s rs n l r f says takes (reading.text t x e) = record_or_fault n l r t says x
later_or_good s rs n l r f says takes (reading.misfit q says' m) = takes_or_misfit (drawn s rs) n r f takes (subst (λ (z : Record). Misfit (drawn s rs) n z f) (record_one l q r says' says) m)

later_line_one : (s : Size) (rs : List Record) (n : ℕ) (l : RawLine) (f g : TableFault) → LaterLine s rs n l f → LaterLine s rs n l g → f ≡ g
later_line_one s rs n l f g (reading.text t x e) (reading.text t' x' e') = e ∙ ap Text (record_fault_one n l t t' x x') ∙ sym e'
later_line_one s rs n l f g (reading.text t x e) (reading.misfit r says m) = absurd (record_or_fault n l r t says x)
later_line_one s rs n l f g (reading.misfit r says m) (reading.text t x e) = absurd (record_or_fault n l r t says x)
later_line_one s rs n l f g (reading.misfit r says m) (reading.misfit q says' m') = misfit_one (drawn s rs) n r f g m (subst (λ (z : Record). Misfit (drawn s rs) n z g) (record_one l q r says' says) m')

-- lines that say records, parted at one of them
record Split (l : RawLine) (rs qs : List Record) : Type 0 where
  here : Record
  rest : List Record
  says : SaysRecord l here
  whole : rs ≡ qs ++ (here ∷ rest)

split : (good tail : List RawLine) (l : RawLine) (rs qs : List Record) → SayRecords (good ++ (l ∷ tail)) rs → SayRecords good qs → Split l rs qs
split [] tail l [] qs h k = absurd h
split [] tail l (r ∷ rs) [] h k = record { here = r; rest = rs; says = h.0; whole = refl }
split [] tail l (r ∷ rs) (q ∷ qs) h k = absurd k
split (g ∷ good) tail l [] qs h k = absurd h
split (g ∷ good) tail l (r ∷ rs) [] h k = absurd k
split (g ∷ good) tail l (r ∷ rs) (q ∷ qs) h k =
    let x = split good tail l rs qs h.1 k.1 in
    let e : r ≡ q = record_one g r q h.0 k.0 in
    let w = x.whole in
    record { here = x.here; rest = x.rest; says = x.says; whole = cc }

-- No line of those that say records that fit has a fault.
no_bad_line : (s : Size) (lines good tail : List RawLine) (bad : RawLine) (rs qs : List Record) (n : ℕ) (f : TableFault) → SayRecords lines rs → Fit s rs → lines ≡ good ++ (bad ∷ tail) → SayRecords good qs → LaterLine s qs n bad f → ⊥
no_bad_line s lines good tail bad rs qs n f say fit e k x =
    let p = split good tail bad rs qs (subst (λ (ls : List RawLine). SayRecords ls rs) e say) k in
    later_or_good s qs n bad p.here f p.says (fit_takes s qs p.rest p.here (subst (Fit s) p.whole fit)) x

-- A file that says a size and records that fit has no faulty line.
module _ (file : List ℕ) (s : Size) (rs : List Record) (reads : Reads file s rs) (fits : SizeFits s) (fit : Fit s rs) where
  lines_are : lines_of file ≡ (size_text s, true) ∷ rows rs
  lines_are = lines_read file s rs reads

  head_is : (l : RawLine) (ls : List RawLine) → lines_of file ≡ l ∷ ls → SaysSize l s
  head_is l ls e = let a = lines_are in let i : (size_text s, true) ≡ l = cc in subst (λ (z : RawLine). SaysSize z s) i (size_read file s rs reads)

  some_line : lines_of file ≡ [] → ⊥
  some_line e = let a = lines_are in let z : ◌≡◌ {A = ℕ} 0 1 = cc in omega arith

  no_later : (l bad : RawLine) (good tail : List RawLine) (t : Size) (qs : List Record) (f : TableFault) → lines_of file ≡ l ∷ (good ++ (bad ∷ tail)) → SaysSize l t → SayRecords good qs → LaterLine t qs (length good + 2) bad f → ⊥
  no_later l bad good tail t qs f e says k x =
      let a = lines_are in
      let i : rows rs ≡ good ++ (bad ∷ tail) = cc in
      let st : t ≡ s = size_one l t s says (head_is l _ e) in
      no_bad_line s (rows rs) good tail bad rs qs (length good + 2) f (rows_say rs reads.small) fit i k (subst (λ (z : Size). LaterLine z qs (length good + 2) bad f) st x)

pub never_both : (file : List ℕ) (room : ℕ) (s : Size) (rs : List Record) (f : TableFault) → Accepted file room s rs → Refused file room f → ⊥
never_both file room s rs f a (empty e i) = some_line file s rs a.reads a.size a.fit e
never_both file room s rs f a (first l ls e x) = first_or_good l s f (head_is file s rs a.reads a.size a.fit l ls e) a.size x
never_both file room s rs f a (later l bad good rest t qs e says fits k fit x) = no_later file s rs a.reads a.size a.fit l bad good rest t qs f e says k x
never_both file room s rs f a (many t qs reads fits fit l e) =
    let same = reads_one file s t rs qs a.reads reads in
    let few = a.few in
    let n = ap length same.1 in
    omega arith

-- the first faulty line is one
later_one : (l l' bad bad' : RawLine) (good good' rest rest' : List RawLine) (s s' : Size) (rs rs' : List Record) (f g : TableFault) → l ∷ (good ++ (bad ∷ rest)) ≡ l' ∷ (good' ++ (bad' ∷ rest')) → SaysSize l s → SaysSize l' s' → SayRecords good rs → SayRecords good' rs' → Fit s rs → Fit s' rs' → LaterLine s rs (length good + 2) bad f → LaterLine s' rs' (length good' + 2) bad' g → f ≡ g
later_one l l' bad bad' good good' rest rest' s s' rs rs' f g e says says' k k' fit fit' x y = go (parted good good' bad bad' rest rest' t)
  where
    h : l ≡ l'
    h = cc

    t : good ++ (bad ∷ rest) ≡ good' ++ (bad' ∷ rest')
    t = cc

    ss : s' ≡ s
    ss = size_one l' s' s says' (subst (λ (z : RawLine). SaysSize z s) h says)

    go : Parted good good' bad bad' rest rest' → f ≡ g
    go (same p q r) =
        let rr : rs' ≡ rs = say_one good' rs' rs k' (subst (λ (ls : List RawLine). SayRecords ls rs) p k) in
        let z : LaterLine s rs (length good + 2) bad g = subst (λ (b : RawLine). LaterLine s rs (length good + 2) b g) (sym q) (subst (λ (ls : List RawLine). LaterLine s rs (length ls + 2) bad' g) (sym p) (subst (λ (xs : List Record). LaterLine s xs (length good' + 2) bad' g) rr (subst (λ (z : Size). LaterLine z rs' (length good' + 2) bad' g) ss y))) in
        later_line_one s rs (length good + 2) bad f g x z
    go (before m p) = absurd (no_bad_line s good' good m bad rs' rs (length good + 2) f k' (subst (λ (z : Size). Fit z rs') ss fit') p k x)
    go (after m p) = absurd (no_bad_line s good good' m bad' rs rs' (length good' + 2) g k fit p k' (subst (λ (z : Size). LaterLine z rs' (length good' + 2) bad' g) ss y))

pub no_line : {l : RawLine} {ls xs : List RawLine} → xs ≡ [] → xs ≡ l ∷ ls → ⊥
no_line e d = let z : ◌≡◌ {A = ℕ} 0 1 = cc in omega arith

heads : {l l' : RawLine} {ls ls' xs : List RawLine} → xs ≡ l ∷ ls → xs ≡ l' ∷ ls' → l ≡ l'
heads e d = cc

-- a fault of the first line, and a file whose first line is in order
pub first_later : {l l' : RawLine} {ls ls' xs : List RawLine} (s : Size) (f : TableFault) → xs ≡ l ∷ ls → xs ≡ l' ∷ ls' → SaysSize l' s → SizeFits s → FirstLine l f → ⊥
first_later {l} s f e d says fits x = first_or_good l s f (subst (λ (z : RawLine). SaysSize z s) (sym (heads e d)) says) fits x

pub one_fault : (file : List ℕ) (room : ℕ) (f g : TableFault) → Refused file room f → Refused file room g → f ≡ g
one_fault file room f g (empty e i) (empty d j) = i ∙ sym j
one_fault file room f g (empty e i) (first l ls d y) = absurd (no_line e d)
one_fault file room f g (empty e i) (later l bad good rest t qs d says fits k fit y) = absurd (no_line e d)
one_fault file room f g (empty e i) (many t qs reads fits fit l d) = absurd (some_line file t qs reads fits fit e)
one_fault file room f g (first l ls e x) (empty d j) = absurd (no_line d e)
one_fault file room f g (first l ls e x) (first l' ls' d y) = first_line_one l f g x (subst (λ (z : RawLine). FirstLine z g) (heads d e) y)
one_fault file room f g (first l ls e x) (later l' bad good rest t qs d says fits k fit y) = absurd (first_later t f e d says fits x)
one_fault file room f g (first l ls e x) (many t qs reads fits fit n d) = absurd (first_or_good l t f (head_is file t qs reads fits fit l ls e) fits x)
one_fault file room f g (later l bad good rest s rs e says fits k fit x) (empty d j) = absurd (no_line d e)
one_fault file room f g (later l bad good rest s rs e says fits k fit x) (first l' ls' d y) = absurd (first_later s g d e says fits y)
one_fault file room f g (later l bad good rest s rs e says fits k fit x) (later l' bad' good' rest' t qs d says' fits' k' fit' y) = later_one l l' bad bad' good good' rest rest' s t rs qs f g (sym e ∙ d) says says' k k' fit fit' x y
one_fault file room f g (later l bad good rest s rs e says fits k fit x) (many t qs reads fits' fit' n d) = absurd (no_later file t qs reads fits' fit' l bad good rest s rs f e says k x)
one_fault file room f g (many t qs reads fits fit l d) (empty e j) = absurd (some_line file t qs reads fits fit e)
one_fault file room f g (many t qs reads fits fit n d) (first l ls e y) = absurd (first_or_good l t g (head_is file t qs reads fits fit l ls e) fits y)
one_fault file room f g (many t qs reads fits' fit' n d) (later l bad good rest s rs e says fits k fit y) = absurd (no_later file t qs reads fits' fit' l bad good rest s rs g e says k y)
one_fault file room f g (many s rs reads fits fit n e) (many t qs reads' fits' fit' n' e') = e ∙ sym e'

same_bytes : (file : List ℕ) (s : Size) (rs : List Record) (old new : List ℕ) (end : ℕ) → Reads file s rs → Wrote (file_text s rs) 0 old new end → take end new ≡ file
same_bytes file s rs old new end reads w = ap (take end) w.bytes ∙ take_at (file_text s rs) (drop end old) end (let e = w.ends in omega arith) ∙ sym reads.text

pub one_reading : (file : List ℕ) (room : ℕ) → OneReading file room
one_reading file room =
    record {
      never_both = never_both file room;
      one = λ s t rs qs a b. reads_one file s t rs qs a.reads b.reads;
      one_fault = one_fault file room;
      same_bytes = λ s rs old new end a w. same_bytes file s rs old new end a.reads w;
    }

-- a file that is accepted has a first line that says a size within the limits
pub accepted_wanting : (file : List ℕ) (room : ℕ) (s : Size) (rs : List Record) → Accepted file room s rs → Wanting file NoMemory
accepted_wanting file room s rs a =
    record {
      fault = refl;
      line = (size_text s, true);
      rest = rows rs;
      lines = lines_read file s rs a.reads;
      size = s;
      says = size_read file s rs a.reads;
      fits = a.size;
    }
