-- Judging a file line by line.
use Rattle.std.proofs.Common.{◌≡◌, ℕ, ◌+◌, ◌<◌, List, [], ◌∷◌, ◌++◌, length, drop, Some, None, Ok, Err, sym, refl, ap, ◌∙◌, arith}
use Rattle.std.proofs.lemmas.List.{append-nil, append_assoc, length-append, length_push}
use Rattle.std.specs.List.{flat_map}
use Rattle.lines.specs.Pieces.{RawLine, lines_of, file_of}
use Rattle.lines.proofs.Laws.{lined, few_lines}
use Rattle.records.specs.declared.faults.TextFault.{TextFault}
use Rattle.records.specs.declared.Record.{Record}
use Rattle.records.specs.declared.Size.{Size}
use Rattle.files.specs.declared.judging.Summary.{Summary}
use Rattle.files.specs.Answers.{summary}
use Rattle.records.specs.Rendering.{size_text, record_text, finished, AllSmall}
use Rattle.files.specs.Says.{SaysSize, SaysRecord, SayRecords, FirstSays, NextSays, FileFault, empty, first, later, Reads}

-- The lines read so far say the size and n records; `left` are to come.
pub record Upto (file : List ℕ) (s : Size) (n passed : ℕ) (left : List RawLine) : Type 0 where
  pub head : RawLine
  pub good : List RawLine
  pub rs : List Record
  pub lines : lines_of file ≡ head ∷ (good ++ left)
  pub size : SaysSize head s
  pub say : SayRecords good rs
  pub count : n ≡ length rs
  pub place : passed ≡ length good + 1

pub say-same-length : (ls : List RawLine) (rs : List Record) → SayRecords ls rs → length rs ≡ length ls
say-same-length [] [] h = refl
say-same-length [] (r ∷ rs) h = absurd h
say-same-length (l ∷ ls) [] h = absurd h
say-same-length (l ∷ ls) (r ∷ rs) h = let e = say-same-length ls rs h.1 in omega arith

-- fewer records than the file has bytes
pub fewer_records : (file : List ℕ) (s : Size) (n passed : ℕ) (left : List RawLine) → Upto file s n passed left → n < length file
fewer_records file s n passed left u =
    let a = ap length u.lines in
    let b = length-append u.good left in
    let c = say-same-length u.good u.rs u.say in
    let d = few_lines file in
    let e = u.count in
    omega arith

pub say_more : (ls : List RawLine) (rs : List Record) (l : RawLine) (r : Record) → SayRecords ls rs → SaysRecord l r → SayRecords (ls ++ (l ∷ [])) (rs ++ (r ∷ []))
say_more [] [] l r h s = (s, tt)
say_more [] (q ∷ qs) l r h s = absurd h
say_more (k ∷ ks) [] l r h s = absurd h
say_more (k ∷ ks) (q ∷ qs) l r h s = (h.0, say_more ks qs l r h.1 s)

pub begins : (file : List ℕ) (s : Size) (passed : ℕ) (left : List RawLine) → FirstSays (lines_of file) (Ok s) → left ≡ drop 1 (lines_of file) → passed + length left ≡ length (lines_of file) → Upto file s 0 passed left
begins file s passed left f e h = go (lines_of file) refl f e h
  where
    go : (ls : List RawLine) → lines_of file ≡ ls → FirstSays ls (Ok s) → left ≡ drop 1 ls → passed + length left ≡ length ls → Upto file s 0 passed left
    go [] is f e h = let z : ◌≡◌ {A = ℕ} 0 1 = cc in absurd (omega arith)
    go (l ∷ ls) is f e h = record { head = l; good = []; rs = []; lines = cc; size = f; say = tt; count = refl; place = let x = ap length e in omega arith }

unfoldable pub goes_on : (file : List ℕ) (s : Size) (n passed m : ℕ) (left rest : List RawLine) (r : Record) → Upto file s n passed left → NextSays passed left (Some (Ok r)) m rest → Upto file s (n + 1) m rest
goes_on file s n passed m left rest r u h =
    let l : RawLine = h.0 in
    let a = append_assoc u.good (l ∷ []) rest in
    let e = u.lines in
    let i = h.1 in
    let c = length_push u.rs r in
    let d = length_push u.good l in
    record {
      head = u.head;
      good = u.good ++ (l ∷ []);
      rs = u.rs ++ (r ∷ []);
      lines = cc;
      size = u.size;
      say = say_more u.good u.rs l r u.say h.2;
      count = let k = u.count in omega arith;
      place = let k = u.place in let q = h.3 in omega arith;
    }

pub size_fault : (file : List ℕ) (f : TextFault) → FirstSays (lines_of file) (Err f) → FileFault file f
size_fault file f h = go (lines_of file) refl h
  where
    go : (ls : List RawLine) → lines_of file ≡ ls → FirstSays ls (Err f) → FileFault file f
    go [] is h = empty is (cc)
    go (l ∷ ls) is h = first l ls is h

pub record_fault : (file : List ℕ) (s : Size) (n passed m : ℕ) (left rest : List RawLine) (f : TextFault) → Upto file s n passed left → NextSays passed left (Some (Err f)) m rest → FileFault file f
record_fault file s n passed m left rest f u h =
    let e = u.lines in
    let i = h.1 in
    let p : passed + 1 ≡ length u.good + 2 = let k = u.place in omega arith in
    later u.head h.0 u.good rest s u.rs (cc) u.size u.say (rw p at h.2)

-- lines that say records make up the text of these
pub text_of : (ls : List RawLine) (rs : List Record) → SayRecords ls rs → file_of ls ≡ flat_map (λ r. finished (record_text r)) rs
text_of [] [] h = refl
text_of [] (r ∷ rs) h = absurd h
text_of (l ∷ ls) [] h = absurd h
text_of (l ∷ ls) (r ∷ rs) h =
    let e = text_of ls rs h.1 in
    let a = append_assoc (record_text r) (10 ∷ []) (file_of ls) in
    let t = h.0.text in
    let b : file_of (l ∷ ls) ≡ record_text r ++ ((10 ∷ []) ++ file_of ls) = ap (λ k. file_of (k ∷ ls)) t in
    cc

small_of : (ls : List RawLine) (rs : List Record) → SayRecords ls rs → AllSmall rs
small_of [] [] h = tt
small_of [] (r ∷ rs) h = absurd h
small_of (l ∷ ls) [] h = absurd h
small_of (l ∷ ls) (r ∷ rs) h = (h.0.small, small_of ls rs h.1)

pub all_read : (file : List ℕ) (s : Size) (n passed m : ℕ) (left rest : List RawLine) (u : Upto file s n passed left) → NextSays passed left None m rest → Reads file s u.rs
all_read file s n passed m left rest u h =
    let e = u.lines in
    let z = h.0 in
    let nil = append-nil u.good in
    let ls : lines_of file ≡ u.head ∷ u.good = cc in
    let t = text_of u.good u.rs u.say in
    let a = append_assoc (size_text s) (10 ∷ []) (file_of u.good) in
    let b : file_of (u.head ∷ u.good) ≡ size_text s ++ ((10 ∷ []) ++ file_of u.good) = ap (λ k. file_of (k ∷ u.good)) u.size.text in
    let back : file ≡ file_of (u.head ∷ u.good) = sym (lined file).joined ∙ ap file_of ls in
    record { text = cc; size_small = u.size.small; small = small_of u.good u.rs u.say }

pub counts : (s : Size) (n : ℕ) (rs : List Record) → n ≡ length rs → ◌≡◌ {A = Summary} (record { size = s; records = n }) (summary s rs)
counts s n rs e = rw e refl
