-- What reading a file answers is one, but for want of memory, and that never comes before a fault of the first line.
use Rattle.std.proofs.Common.{◌≡◌, ℕ, ◌⊎◌, List, ◌++◌, length, drop, Ok, Err, Result, sym, refl, ap, ◌∙◌, inl, inr}
use Rattle.records.specs.declared.Record.{Record}
use Rattle.records.specs.declared.Size.{Size}
use Rattle.files.specs.declared.judging.Summary.{Summary}
use Rattle.networks.specs.declared.faults.TableFault.{TableFault}
use Rattle.networks.specs.declared.faults.TableFault.TheVariants.{NoMemory}
use Rattle.tables.specs.Drawn.{drawn}
use Rattle.netfiles.specs.declared.reading.NetworkFile.{NetworkFile}
use Rattle.netfiles.specs.Reading.{Accepted, Refused, Wanting, FirstTold, TableRead, SameTold, Reading, empty, first}
use Rattle.netfiles.proofs.Readings.{never_both, one_fault, one_reading, no_line, first_later}

-- an answer to a file that has a fault which memory does not bear on
module _ {A : Type 0} (file : List ℕ) (room : ℕ) (r : Result A TableFault) (told : (f : TableFault) → Refused file room f → ((g : TableFault) → Wanting file g → ⊥) → r ≡ Err f) where
  pub first_told : FirstTold file r
  first_told =
      record {
        empty = λ e. told _ (empty e refl) (λ g w. no_line e w.lines);
        line = λ l ls f e x. told f (first l ls e x) (λ g w. first_later w.size f e w.lines w.says w.fits x);
      }

module _ (file : List ℕ) (room : ℕ) where
  same_summary : (a b : Summary) (rs qs : List Record) → Accepted file room a.size rs → Accepted file room b.size qs → a.records ≡ length rs → b.records ≡ length qs → a ≡ b
  same_summary a b rs qs x y m n =
      let o = (one_reading file room).one a.size b.size rs qs x y in
      go a.size b.size a.records b.records o.0 (m ∙ ap length o.1 ∙ sym n)
    where
      go : (s t : Size) (m n : ℕ) → s ≡ t → m ≡ n → ◌≡◌ {A = Summary} (record { size = s; records = m }) (record { size = t; records = n })
      go s t m n e f = cc

  pub table_told : (r : Result NetworkFile TableFault) → TableRead file room r → (f : TableFault) → Refused file room f → ((g : TableFault) → Wanting file g → ⊥) → r ≡ Err f
  table_told (Ok a) h f x spared = absurd (never_both file room a.summary.size h.0 f h.1 x)
  table_told (Err g) (inl y) f x spared = ap Err (one_fault file room g f y x)
  table_told (Err g) (inr w) f x spared = absurd (spared g w)

  pub only_table : (r : Result NetworkFile TableFault) → TableRead file room r → (q : Result NetworkFile TableFault) → TableRead file room q → (r ≡ Err NoMemory) ⊎ ((q ≡ Err NoMemory) ⊎ SameTold q r)
  only_table (Ok a) h (Ok b) k =
      let o = (one_reading file room).one b.summary.size a.summary.size k.0 h.0 k.1 h.1 in
      inr (inr (same_summary b.summary a.summary k.0 h.0 k.1 h.1 k.2 h.2, k.3 ∙ (λ i. drawn (o.0 i) (o.1 i)) ∙ sym h.3))
  only_table (Ok a) h (Err g) (inl y) = absurd (never_both file room a.summary.size h.0 g h.1 y)
  only_table (Ok a) h (Err g) (inr w) = inr (inl (ap Err w.fault))
  only_table (Err f) (inl x) (Ok b) k = absurd (never_both file room b.summary.size k.0 f k.1 x)
  only_table (Err f) (inl x) (Err g) (inl y) = inr (inr (one_fault file room g f y x))
  only_table (Err f) (inl x) (Err g) (inr w) = inr (inl (ap Err w.fault))
  only_table (Err f) (inr w) q k = inl (ap Err w.fault)

module _ (file : List ℕ) (before : List Record) where
  pub reading_told : (r : Result Summary TableFault) (after : List Record) → Reading file before r after → (f : TableFault) → Refused file (length before) f → ((g : TableFault) → Wanting file g → ⊥) → r ≡ Err f
  reading_told (Ok a) after h f x spared = absurd (never_both file (length before) a.size h.0 f h.1 x)
  reading_told (Err g) after (inl y, e) f x spared = ap Err (one_fault file (length before) g f y x)
  reading_told (Err g) after (inr w, e) f x spared = absurd (spared g w)

  pub only_reading : (r : Result Summary TableFault) (after : List Record) → Reading file before r after → (q : Result Summary TableFault) (list : List Record) → Reading file before q list → (r ≡ Err NoMemory) ⊎ (((q ≡ Err NoMemory) × (list ≡ before)) ⊎ ((q ≡ r) × (list ≡ after)))
  only_reading (Ok a) after h (Ok b) list k =
      let o = (one_reading file (length before)).one b.size a.size k.0 h.0 k.1 h.1 in
      inr (inr (ap Ok (same_summary file (length before) b a k.0 h.0 k.1 h.1 k.2 h.2), k.3 ∙ ap (λ (rs : List Record). rs ++ drop (length rs) before) o.1 ∙ sym h.3))
  only_reading (Ok a) after h (Err g) list (inl y, e) = absurd (never_both file (length before) a.size h.0 g h.1 y)
  only_reading (Ok a) after h (Err g) list (inr w, e) = inr (inl (ap Err w.fault, e))
  only_reading (Err f) after (inl x, d) (Ok b) list k = absurd (never_both file (length before) b.size k.0 f k.1 x)
  only_reading (Err f) after (inl x, d) (Err g) list (inl y, e) = inr (inr (ap Err (one_fault file (length before) g f y x), e ∙ sym d))
  only_reading (Err f) after (inl x, d) (Err g) list (inr w, e) = inr (inl (ap Err w.fault, e))
  only_reading (Err f) after (inr w, d) q list k = inl (ap Err w.fault)

-- all clauses of what reading promises, from the first of them
pub table_first : (file : List ℕ) (room : ℕ) (r : Result NetworkFile TableFault) → TableRead file room r → FirstTold file r
table_first file room r h = first_told file room r (table_told file room r h)

pub reading_first : (file : List ℕ) (before : List Record) (r : Result Summary TableFault) (after : List Record) → Reading file before r after → FirstTold file r
reading_first file before r after h = first_told file (length before) r (reading_told file before r after h)
