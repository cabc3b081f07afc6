-- The lines of records, and how long they are.
use Rattle.std.proofs.Common.{◌≡◌, ℕ, ◌+◌, ◌*◌, ◌<◌, ◌≤◌, List, [], ◌∷◌, ◌++◌, length, get_or, take, decimal, sym, ap, ◌∙◌, arith}
use Rattle.std.proofs.lemmas.Fmt.{length-decimal-le}
use Rattle.std.proofs.lemmas.List.{length-append, flat_map_more, take_more}
use Rattle.std.proofs.lemmas.List.Concat.{length-flat_map}
use Rattle.std.specs.List.{flat_map, sum_by}
use Rattle.records.specs.declared.Record.{Record}
use Rattle.records.specs.declared.Record.TheVariants.{Entry, Home, Way}
use Rattle.records.specs.declared.Size.{Size}
use Rattle.records.specs.Rendering.{file_text, finished, size_text, record_text, numbers_text, numbers_of, Small, AllSmall}

abbrev pub record_line : Record → List ℕ
record_line r = finished (record_text r)

abbrev pub record_lines : List Record → List ℕ
record_lines rs = flat_map (λ r. finished (record_text r)) rs

-- one record more
pub lines_more : (rs : List Record) (i : ℕ) (d : Record) → i < length rs → record_lines (take (i + 1) rs) ≡ record_lines (take i rs) ++ record_line (get_or rs i d)
lines_more rs i d h = ap record_lines (take_more rs i d h) ∙ sym (flat_map_more record_line [] (take i rs) (get_or rs i d))

pub length-lines : (rs : List Record) → length (record_lines rs) ≡ sum_by (λ r. length (finished (record_text r))) rs
length-lines rs = length-flat_map record_line rs

pub length-file : (s : Size) (rs : List Record) → length (file_text s rs) ≡ length (finished (size_text s)) + length (record_lines rs)
length-file s rs = length-append (finished (size_text s)) (record_lines rs)

short_numbers : (ns : List ℕ) → Small ns → length (numbers_text ns) ≤ 5 * length ns
short_numbers [] s = omega arith
short_numbers (n ∷ ns) s =
    let d : length (decimal n) ≤ 4 = length-decimal-le 4 n (omega arith) (omega arith) (omega arith) in
    let l = length-append (decimal n) (numbers_text ns) in
    let i = short_numbers ns s.1 in
    omega arith

few_numbers : (r : Record) → length (numbers_of r) ≤ 3
few_numbers (Entry c d) = omega arith
few_numbers (Home c d) = omega arith
few_numbers (Way c d h) = omega arith

short_line : (r : Record) → Small (numbers_of r) → length (record_line r) ≤ 20
short_line r s =
    let l = length-append (record_text r) (10 ∷ []) in
    let n = short_numbers (numbers_of r) s in
    let k = few_numbers r in
    omega arith

-- lines of numbers of at most four digits have at most 20 bytes each
pub short_lines : (rs : List Record) → AllSmall rs → length (record_lines rs) ≤ 20 * length rs
short_lines [] s = omega arith
short_lines (r ∷ rs) s =
    let l = length-append (record_line r) (record_lines rs) in
    let h = short_line r s.0 in
    let i = short_lines rs s.1 in
    omega arith
