-- Reading a file and writing it anew, line by line.
use Rattle.std.proofs.Common.{◌≡◌, ℕ, ◌+◌, ◌≤◌, List, [], ◌∷◌, ◌++◌, length, drop, Some, None, Ok, Err, sym, refl, ap, ◌∙◌, subst, arith}
use Rattle.std.proofs.lemmas.List.{append-nil, append_assoc, length-append, flat_map_more, nil_from_length}
use Rattle.std.specs.List.{flat_map}
use Rattle.lines.specs.Pieces.{RawLine, lines_of, file_of, ending}
use Rattle.lines.proofs.Laws.{lined}
use Rattle.records.specs.declared.faults.TextFault.{TextFault}
use Rattle.records.specs.declared.Record.{Record}
use Rattle.records.specs.declared.Size.{Size}
use Rattle.records.specs.declared.writing.WriteFault.{WriteFault}
use Rattle.records.specs.declared.writing.WriteFault.TheVariants.{LargeNumber, NoRoom}
use Rattle.records.specs.Rendering.{line_text, size_text, size_numbers, record_text, finished, file_text, Small}
use Rattle.files.specs.Rewrites.{Readable}
use Rattle.files.specs.Says.{FirstSays, NextSays, Reads}
use Rattle.records.specs.Writes.{Wrote, WritesLine}
use Rattle.files.proofs.LineByLine.{Upto, begins, goes_on, record_fault, all_read, text_of}
use Rattle.files.proofs.OneAnswer.{reads_or_fault}
use Rattle.records.proofs.Texts.{wrote_front, wrote_then, drop_later}

-- What the lines so far say is written; the first of them ended at `first`.
pub record Copying (file : List ℕ) (passed : ℕ) (left : List RawLine) (old new : List ℕ) (first end : ℕ) : Type 0 where
  pub size : Size
  pub count : ℕ
  pub upto : Upto file size count passed left
  pub later : first ≤ end
  pub wrote : Wrote (file_text size upto.rs) 0 old new end

files-append : (ls ms : List RawLine) → file_of (ls ++ ms) ≡ file_of ls ++ file_of ms
files-append [] ms = refl
files-append (l ∷ ls) ms =
    let e = files-append ls ms in
    let a = append_assoc l.0 (ending l.1 ++ file_of ls) (file_of ms) in
    let b = append_assoc (ending l.1) (file_of ls) (file_of ms) in
    cc

-- the text of what was read so far, and that of the lines to come
so_far : (file : List ℕ) (s : Size) (n passed : ℕ) (left : List RawLine) (u : Upto file s n passed left) → file ≡ file_text s u.rs ++ file_of left
so_far file s n passed left u =
    let a : file ≡ file_of (u.head ∷ (u.good ++ left)) = sym (lined file).joined ∙ ap file_of u.lines in
    let b : file_of (u.head ∷ (u.good ++ left)) ≡ size_text s ++ ((10 ∷ []) ++ file_of (u.good ++ left)) = ap (λ k. file_of (k ∷ (u.good ++ left))) u.size.text in
    let c = append_assoc (size_text s) (10 ∷ []) (file_of (u.good ++ left)) in
    let d = files-append u.good left in
    let e = text_of u.good u.rs u.say in
    let f = append_assoc (finished (size_text s)) (flat_map (λ r. finished (record_text r)) u.rs) (file_of left) in
    cc

-- a line is written where its numbers are small and the bytes suffice
pub surely : (letter : ℕ) (ns : List ℕ) (at : ℕ) (old new : List ℕ) (x : WriteFault) → Small ns → at + length (finished (line_text letter ns)) ≤ length old → WritesLine letter ns at old (Err x) new → ⊥
surely letter ns at old new LargeNumber s h w = w.0 s
surely letter ns at old new NoRoom s h w = let l = w.1 in omega arith

size_alone : (file : List ℕ) (s : Size) (passed : ℕ) (left : List RawLine) (u : Upto file s 0 passed left) → file_text s u.rs ≡ finished (size_text s)
size_alone file s passed left u =
    let e = nil_from_length u.rs (sym u.count) in
    ap (file_text s) e ∙ append-nil (finished (size_text s))

module _ (file : List ℕ) (s : Size) (passed : ℕ) (left : List RawLine) (says : FirstSays (lines_of file) (Ok s)) (rest : left ≡ drop 1 (lines_of file)) (count : passed + length left ≡ length (lines_of file)) where
  pub size_room : length (finished (size_text s)) ≤ length file
  size_room =
      let u = begins file s passed left says rest count in
      let a = ap length (so_far file s 0 passed left u) in
      let b = length-append (file_text s u.rs) (file_of left) in
      let c = ap length (size_alone file s passed left u) in
      omega arith

  pub size_small : Small (size_numbers s)
  size_small = (begins file s passed left says rest count).size.small

  -- the text of the size is written
  pub starts : (old new : List ℕ) (end : ℕ) → length new ≡ length old → Wrote (finished (size_text s)) 0 old new end → Copying file passed left new new end end
  starts old new end same w =
      let u = begins file s passed left says rest count in
      let d = (wrote_front (finished (size_text s)) 0 old new end w).1 in
      let e = size_alone file s passed left u in
      let b = w.bytes in
      record {
        size = s;
        count = 0;
        upto = u;
        later = omega arith;
        wrote = record { ends = let x = w.ends in let y = ap length e in omega arith; fits = let f = w.fits in omega arith; bytes = cc };
      }

module _ (file : List ℕ) (passed m : ℕ) (left rest : List RawLine) (old new : List ℕ) (first end : ℕ) (c : Copying file passed left old new first end) where
  pub record_room : (r : Record) → NextSays passed left (Some (Ok r)) m rest → end + length (finished (record_text r)) ≤ length file
  record_room r h =
      let a = ap length (so_far file c.size c.count passed left c.upto) in
      let b = length-append (file_text c.size c.upto.rs) (file_of left) in
      let d : file_of left ≡ record_text r ++ ((10 ∷ []) ++ file_of rest) = ap file_of h.1 ∙ ap (λ k. file_of (k ∷ rest)) h.2.text in
      let e = ap length (d ∙ sym (append_assoc (record_text r) (10 ∷ []) (file_of rest))) in
      let f = length-append (finished (record_text r)) (file_of rest) in
      let g = c.wrote.ends in
      omega arith

  -- one record more is written
  pub more : (r : Record) (newer : List ℕ) (end' : ℕ) → NextSays passed left (Some (Ok r)) m rest → length new ≡ length old → Wrote (finished (record_text r)) end new newer end' → Copying file m rest old newer first end'
  unfolding goes_on
  more r newer end' h same w =
      let s : Size = c.size in
      let text : file_text s c.upto.rs ++ finished (record_text r) ≡ file_text s (c.upto.rs ++ (r ∷ [])) = flat_map_more (λ q. finished (record_text q)) (finished (size_text s)) c.upto.rs r in
      let both = wrote_then (file_text s c.upto.rs) (finished (record_text r)) 0 end end' old new newer c.wrote same w in
      record {
        size = s;
        count = c.count + 1;
        upto = goes_on file s c.count passed m left rest r c.upto h;
        later = let a = c.later in let b = w.ends in omega arith;
        wrote = subst (λ t. Wrote t 0 old newer end') text both;
      }

  pub no_fault : (f : TextFault) → (s : Size) (rs : List Record) → Reads file s rs → NextSays passed left (Some (Err f)) m rest → ⊥
  no_fault f s rs r h = reads_or_fault file s rs f r (record_fault file c.size c.count passed m left rest f c.upto h)

  -- all is written
  pub done : (head start : List ℕ) → NextSays passed left None m rest → length old ≡ length start → Wrote head 0 start old first → Readable file × Wrote file 0 start new end
  done head start h same w =
      let r = all_read file c.size c.count passed m left rest c.upto h in
      let d = drop_later end first old start c.later (wrote_front head 0 start old first w).1 in
      let b = c.wrote.bytes in
      let t = r.text in
      ((c.size, c.upto.rs, r), record { ends = let x = c.wrote.ends in let y = ap length t in omega arith; fits = let f = c.wrote.fits in omega arith; bytes = cc })
