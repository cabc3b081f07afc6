-- Storing the records of a file.
use Rattle.std.proofs.Common.{◌≡◌, ℕ, ◌+◌, ◌-◌, ◌<◌, ◌≤◌, List, [], ◌∷◌, ◌++◌, length, drop, set, Option, Some, None, Result, Ok, Err, sym, ap, ◌∙◌, arith}
use Rattle.std.specs.Option.{MatchOption}
use Rattle.std.specs.Result.{result_ok}
use Rattle.std.proofs.lemmas.List.{append_assoc, length-append, length-map, set-append_right, drop_more, nil_from_length}
use Rattle.lines.specs.Pieces.{RawLine, lines_of}
use Rattle.records.specs.declared.faults.TextFault.{TextFault}
use Rattle.records.specs.declared.Record.{Record}
use Rattle.records.specs.declared.Size.{Size}
use Rattle.files.specs.Says.{FirstSays, NextSays, Reads}
use Rattle.files.proofs.LineByLine as lines
use Rattle.files.proofs.OneAnswer.{rows, lines_read, size_read, reads_one, reads_or_fault}
use Rattle.netfiles.specs.Reading.{Storable}

-- The records of the lines so far stand at the start of the list, and the list is as it was behind them.
pub record Storing (file : List ℕ) (passed : ℕ) (left : List RawLine) (at : ℕ) (old new : List Record) : Type 0 where
  pub size : Size
  pub records : List Record
  pub reads : Reads file size records
  pub few : length records ≤ length old
  pub lines : lines.Upto file size at passed left
  pub stored : new ≡ (lines).rs ++ drop at old

-- what the reader gave, where a record was handed on
pub handed_on : {N : Type 0} {C : Result Record TextFault → Type 0} (r : Record) (o : Option (Result Record TextFault)) → (N → ⊥) → ((x : Result Record TextFault) → C x → Some r ≡ result_ok x) → MatchOption o N C → o ≡ Some (Ok r)
handed_on r None some gives h = absurd (some h)
handed_on r (Some (Ok x)) some gives h = let e = gives (Ok x) h in cc
handed_on r (Some (Err f)) some gives h = let e = gives (Err f) h in cc

first_says : (file : List ℕ) (s : Size) (rs : List Record) → Reads file s rs → FirstSays (lines_of file) (Ok s)
first_says file s rs r = rw (lines_read file s rs r) (size_read file s rs r)

pub begins : (file : List ℕ) (passed : ℕ) (left : List RawLine) (list : List Record) → Storable file (length list) → left ≡ drop 1 (lines_of file) → passed + length left ≡ length (lines_of file) → Storing file passed left 0 list list
begins file passed left list h rest count =
    let u = lines.begins file h.size passed left (first_says file h.size h.records h.reads) rest count in
    record { size = h.size; records = h.records; reads = h.reads; few = h.few; lines = u; stored = ap (λ rs. rs ++ list) (sym (nil_from_length u.rs (sym u.count))) }

module _ (file : List ℕ) (passed m at : ℕ) (left rest : List RawLine) (old new : List Record) (b : Storing file passed left at old new) where
  pub room : (r : Record) → NextSays passed left (Some (Ok r)) m rest → at < length old
  room r h =
      let u = b.lines in
      let e = ap length u.lines in
      let l = length-append u.good left in
      let i = ap length h.1 in
      let n = ap length (lines_read file b.size b.records b.reads) in
      let k : length (rows b.records) ≡ length b.records = length-map b.records _ in
      let c = u.count in
      let d = lines.say-same-length u.good u.rs u.say in
      let f = b.few in
      omega arith

  pub goes_on : (r : Record) → NextSays passed left (Some (Ok r)) m rest → Storing file m rest (at + 1) old (set new at r)
  unfolding lines.goes_on
  goes_on r h =
      let u = b.lines in
      let c : length u.rs ≡ at = sym u.count in
      let p : set new at r ≡ u.rs ++ set (drop at old) 0 r = ap (λ xs. set xs at r) b.stored ∙ set-append_right u.rs (drop at old) at at r c (omega arith) ∙ ap (λ k. u.rs ++ set (drop at old) k r) (minus at) in
      record {
        size = b.size;
        records = b.records;
        reads = b.reads;
        few = b.few;
        lines = lines.goes_on file b.size at passed m left rest r u h;
        stored = p ∙ ap (λ xs. u.rs ++ xs) (first_set (drop at old) (drop (at + 1) old) (drop_more old at r (room r h))) ∙ sym (append_assoc u.rs (r ∷ []) (drop (at + 1) old));
      }
    where
      minus : (k : ℕ) → k - k ≡ 0
      minus k = omega arith

      first_set : (xs ys : List Record) → {x : Record} → xs ≡ x ∷ ys → set xs 0 r ≡ r ∷ ys
      first_set xs ys e = ap (λ zs. set zs 0 r) e

  -- nothing was handed on, as there are no lines left and not as one has a fault
  pub ended : (N : Type 0) {C : Result Record TextFault → Type 0} (o : Option (Result Record TextFault)) → ((x : Result Record TextFault) → C x → None ≡ result_ok x) → MatchOption o N C → NextSays passed left o m rest → NextSays passed left None m rest
  ended N None gives h next = next
  ended N (Some (Ok r)) gives h next = let e = gives (Ok r) h in cc
  ended N (Some (Err f)) gives h next = absurd (reads_or_fault file b.size b.records f b.reads (lines.record_fault file b.size at passed m left rest f b.lines next))

  pub done : (s : Size) (rs : List Record) → Reads file s rs → NextSays passed left None m rest → new ≡ rs ++ drop (length rs) old
  done s rs reads h =
      let u = b.lines in
      let all = lines.all_read file b.size at passed m left rest u h in
      let e : u.rs ≡ rs = (reads_one file b.size s u.rs rs all reads).1 in
      b.stored ∙ (λ i. e i ++ drop ((u.count ∙ ap length e) i) old)
