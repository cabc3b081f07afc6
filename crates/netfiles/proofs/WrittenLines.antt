-- The lines of records that make a table, written one behind the other.
use Rattle.std.proofs.Common.{◌≡◌, ℕ, ◌+◌, ◌<◌, ◌≤◌, ◌⊎◌, List, [], ◌∷◌, length, get_or, take, Ok, Err, Result, sym, refl, ap, subst, inl, inr, arith}
use Rattle.std.proofs.lemmas.List.Elements.{All-from_recursion}
use Rattle.std.proofs.lemmas.List.Folds.{length-flat_map-take}
use Rattle.std.specs.List.{AllByRecursion}
use Rattle.std.specs.Result.{IsOk}
use Rattle.records.specs.declared.Record.{Record}
use Rattle.records.specs.declared.Record.TheVariants.{Entry, Home, Way}
use Rattle.records.specs.declared.Size.{Size}
use Rattle.records.specs.declared.writing.WriteFault.{WriteFault}
use Rattle.records.specs.Rendering.{file_text, finished, line_text, size_text, size_numbers, letter_of, numbers_of, Small, AllSmall}
use Rattle.records.specs.Writes.{Wrote, WritesLine}
use Rattle.records.proofs.Texts.{wrote_front, wrote_then}
use Rattle.networks.specs.declared.faults.StudyFault.TheVariants.{Table}
use Rattle.networks.specs.declared.faults.TableFault.{TableFault}
use Rattle.networks.specs.declared.faults.TableFault.TheVariants.{NoMemory}
use Rattle.networks.specs.Nets.{Net}
use Rattle.files.specs.Says.{Reads}
use Rattle.files.proofs.Copies.{surely}
use Rattle.files.proofs.OneAnswer.{reads_one}
use Rattle.tables.specs.Drawn.{drawn}
use Rattle.tables.specs.Makes.{SizeFits, Within, Acceptable, RecordsFault}
use Rattle.netfiles.specs.Writing.{Written, Unwritten, faulty, wanting}
use Rattle.netfiles.proofs.Totals.{record_line, record_lines, lines_more}

-- numbers below their counts have at most four digits
small_size : (s : Size) → SizeFits s → Small (size_numbers s)
small_size s h = let c = h.few_channels in let d = h.few_places in (omega arith, (omega arith, tt))

small_record : (n : Net) (r : Record) → n.channels ≤ 1024 → n.places ≤ 256 → Within n r → Small (numbers_of r)
small_record n (Entry c d) few less w = (omega (arith, w 0 (omega arith)), (omega (arith, w 1 (omega arith)), tt))
small_record n (Home c d) few less w = (omega (arith, w 0 (omega arith)), (omega (arith, w 1 (omega arith)), tt))
small_record n (Way c d h) few less w = (omega (arith, w 0 (omega arith)), (omega (arith, w 1 (omega arith)), (omega (arith, w 2 (omega arith)), tt)))

small_records : (n : Net) (rs : List Record) → n.channels ≤ 1024 → n.places ≤ 256 → AllByRecursion (Within n) rs → AllSmall rs
small_records n [] few less h = tt
small_records n (r ∷ rs) few less h = (small_record n r few less h.0, small_records n rs few less h.1)

pub all_small : (s : Size) (rs : List Record) → Acceptable s rs → AllSmall rs
all_small s rs a = small_records (drawn s rs) rs a.size.few_channels a.size.few_places a.fit.within

-- a line of numbers of at most four digits is written where the bytes suffice
is_written : (letter : ℕ) (ns : List ℕ) (at : ℕ) (old new : List ℕ) (r : Result ℕ WriteFault) → Small ns → at + length (finished (line_text letter ns)) ≤ length old → WritesLine letter ns at old r new → IsOk r
is_written letter ns at old new (Ok end) small room w = refl
is_written letter ns at old new (Err x) small room w = absurd (surely letter ns at old new x small room w)

-- the line of a record is, where the bytes suffice for all
pub record_written : (rs : List Record) (i at end : ℕ) (old half new : List ℕ) (r : Result ℕ WriteFault) (d : Record) → i < length rs → AllSmall rs → at + length (record_lines rs) ≤ length half → Wrote (record_lines (take i rs)) at old half end → WritesLine (letter_of (get_or rs i d)) (numbers_of (get_or rs i d)) end half r new → IsOk r
record_written rs i at end old half new r d h small room w =
    let split = length-flat_map-take record_line rs i d h in
    let ends = w.ends in
    is_written (letter_of (get_or rs i d)) (numbers_of (get_or rs i d)) end half new r (All-from_recursion (λ r. Small (numbers_of r)) rs small i d h) (omega arith)

pub one_more : (rs : List Record) (i at end next : ℕ) (old half new : List ℕ) (d : Record) → i < length rs → length half ≡ length old → Wrote (record_lines (take i rs)) at old half end → Wrote (record_line (get_or rs i d)) end half new next → Wrote (record_lines (take (i + 1) rs)) at old new next
one_more rs i at end next old half new d h same w v =
    subst (λ t. Wrote t at old new next) (sym (lines_more rs i d h)) (wrote_then (record_lines (take i rs)) (record_line (get_or rs i d)) at end next old half new w same v)

-- records that make no table
pub refused : (s : Size) (rs : List Record) (room : ℕ) (t : TableFault) → RecordsFault s rs t ⊎ (SizeFits s × (t ≡ NoMemory)) → Unwritten s rs room (Table t)
refused s rs room t (inl f) = faulty t f refl
refused s rs room t (inr m) = wanting m.0 (ap Table m.1)

-- the file that was written is read as the size and the records, and as nothing else
pub written : (s : Size) (rs : List Record) (mid end : ℕ) (old half new : List ℕ) → Acceptable s rs → length half ≡ length old → Wrote (finished (size_text s)) 0 old half mid → Wrote (record_lines rs) mid half new end → Written s rs old new end
written s rs mid end old half new a same w v =
    let all : Wrote (file_text s rs) 0 old new end = wrote_then (finished (size_text s)) (record_lines rs) 0 mid end old half new w same v in
    let back : Reads (take end new) s rs = record { text = (wrote_front (file_text s rs) 0 old new end all).0; size_small = small_size s a.size; small = all_small s rs a } in
    let few = a.few in
    record {
      acceptable = a;
      wrote = all;
      back = λ room h. record { reads = back; size = a.size; fit = a.fit; few = omega arith };
      only = λ room t qs k. reads_one (take end new) t s qs rs k.reads back;
    }
