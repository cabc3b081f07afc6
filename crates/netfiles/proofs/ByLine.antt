-- Judging a file line by line, with the table of its records so far.
use Rattle.std.proofs.Common.{◌≡◌, ℕ, ◌+◌, ◌<◌, ◌≤◌, ◌⊎◌, List, [], ◌∷◌, length, drop, Some, None, Ok, Err, sym, refl, ap, subst, inl, inr, arith}
use Rattle.std.proofs.lemmas.List.{nil_from_length}
use Rattle.lines.specs.Pieces.{RawLine, lines_of}
use Rattle.records.specs.declared.faults.TextFault.{TextFault}
use Rattle.records.specs.declared.Record.{Record}
use Rattle.records.specs.declared.Size.{Size}
use Rattle.files.specs.Says.{SaysSize, FirstSays, NextSays}
use Rattle.files.proofs.LineByLine as lines
use Rattle.networks.specs.declared.faults.TableFault.{TableFault}
use Rattle.networks.specs.declared.faults.TableFault.TheVariants.{Text, TooManyRecords, NoMemory}
use Rattle.networks.specs.Nets.{Net}
use Rattle.tables.specs.declared.table.Table.{Table}
use Rattle.tables.specs.Drawn.{drawn, adding}
use Rattle.tables.specs.Makes.{limit, SizeFits, SizeMisfit, Takes, Misfit}
use Rattle.tables.specs.Meaning.{meaning_of}
use Rattle.tables.proofs.ByRecord as table
use Rattle.netfiles.specs.Reading as reading
use Rattle.netfiles.specs.Reading.{Accepted, Refused, Wanting}

-- The lines so far say the size and n records, which fit and are in the table; `left` are to come.
pub record Both (file : List ℕ) (s : Size) (n passed : ℕ) (left : List RawLine) (t : Table) : Type 0 where
  pub lines : lines.Upto file s n passed left
  pub records : table.Upto s (lines).rs t

-- the first line, if the file has one
pub size_refused : (file : List ℕ) (room : ℕ) (f : TextFault) → FirstSays (lines_of file) (Err f) → Refused file room (Text f)
size_refused file room f h = go (lines_of file) refl h
  where
    go : (ls : List RawLine) → lines_of file ≡ ls → FirstSays ls (Err f) → Refused file room (Text f)
    go [] is h = reading.empty is (let e : f ≡ _ = cc in ap Text e)
    go (l ∷ ls) is h = reading.first l ls is (reading.text f h refl)

-- the file has a first line, and it says the size
record Headed (file : List ℕ) (s : Size) : Type 0 where
  line : RawLine
  rest : List RawLine
  lines : lines_of file ≡ line ∷ rest
  says : SaysSize line s

headed : (file : List ℕ) (s : Size) → FirstSays (lines_of file) (Ok s) → Headed file s
headed file s h = go (lines_of file) refl h
  where
    go : (ls : List RawLine) → lines_of file ≡ ls → FirstSays ls (Ok s) → Headed file s
    go [] is h = let z : ◌≡◌ {A = ℕ} 0 1 = cc in absurd (omega arith)
    go (l ∷ ls) is h = record { line = l; rest = ls; lines = is; says = h }

pub blank_refused : (file : List ℕ) (room : ℕ) (s : Size) (f : TableFault) → FirstSays (lines_of file) (Ok s) → SizeMisfit s f ⊎ (SizeFits s × (f ≡ NoMemory)) → Refused file room f ⊎ Wanting file f
blank_refused file room s f h (inl m) = let x = headed file s h in inl (reading.first x.line x.rest x.lines (reading.size s x.says m))
blank_refused file room s f h (inr p) =
    let x = headed file s h in
    inr (record { fault = p.1; line = x.line; rest = x.rest; lines = x.lines; size = s; says = x.says; fits = p.0 })

pub begins : (file : List ℕ) (s : Size) (passed : ℕ) (left : List RawLine) (t : Table) → FirstSays (lines_of file) (Ok s) → left ≡ drop 1 (lines_of file) → passed + length left ≡ length (lines_of file) → SizeFits s → meaning_of t ≡ drawn s [] → Both file s 0 passed left t
begins file s passed left t says rest count fits e =
    let u = lines.begins file s passed left says rest count in
    record { lines = u; records = subst (λ (rs : List Record). table.Upto s rs t) (sym (nil_from_length u.rs (sym u.count))) (record { size = fits; fit = table.fit_none s; meaning = e }) }

module _ (file : List ℕ) (room : ℕ) (s : Size) (n passed m : ℕ) (left rest : List RawLine) (t : Table) (b : Both file s n passed left t) where
  pub text_refused : (f : TextFault) → NextSays passed left (Some (Err f)) m rest → Refused file room (Text f)
  text_refused f h =
      let u = b.lines in
      let e = u.lines in
      let i = h.1 in
      let p : passed + 1 ≡ length u.good + 2 = let k = u.place in omega arith in
      reading.later u.head h.0 u.good rest s u.rs (cc) u.size b.records.size u.say b.records.fit (reading.text f (rw p at h.2) refl)

  pub record_refused : (r : Record) (line : ℕ) (f : TableFault) → NextSays passed left (Some (Ok r)) m rest → line ≡ m → Misfit (meaning_of t) line r f → Refused file room f
  record_refused r line f h is x =
      let u = b.lines in
      let e = u.lines in
      let i = h.1 in
      let p : line ≡ length u.good + 2 = let k = u.place in let q = h.3 in omega arith in
      let y : Misfit (drawn s u.rs) (length u.good + 2) r f = subst (λ (k : ℕ). Misfit (drawn s u.rs) k r f) p (subst (λ (net : Net). Misfit net line r f) b.records.meaning x) in
      reading.later u.head h.0 u.good rest s u.rs (cc) u.size b.records.size u.say b.records.fit (reading.misfit r h.2 y)

  pub goes_on : (r : Record) (v : Table) → NextSays passed left (Some (Ok r)) m rest → Takes (meaning_of t) r → meaning_of v ≡ adding (meaning_of t) r → Both file s (n + 1) m rest v
  unfolding lines.goes_on
  goes_on r v h takes e = record { lines = lines.goes_on file s n passed m left rest r b.lines h; records = table.goes_on s b.lines.rs r t v b.records takes e }

  pub accepted : NextSays passed left None m rest → n ≤ limit room → (rs : List Record) × Accepted file room s rs × (n ≡ length rs) × (meaning_of t ≡ drawn s rs)
  accepted h few =
      let r = lines.all_read file s n passed m left rest b.lines h in
      let c = b.lines.count in
      (b.lines.rs, record { reads = r; size = b.records.size; fit = b.records.fit; few = omega arith }, c, b.records.meaning)

  pub too_many : (f : TableFault) → NextSays passed left None m rest → limit room < n → f ≡ TooManyRecords (limit room + 2) → Refused file room f
  too_many f h l e =
      let r = lines.all_read file s n passed m left rest b.lines h in
      let c = b.lines.count in
      reading.many s b.lines.rs r b.records.size b.records.fit (omega arith) e
