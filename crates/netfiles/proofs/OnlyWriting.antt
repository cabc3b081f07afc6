-- What writing a file answers is one, but for want of memory, and that never comes before a fault of the size.
use Rattle.std.proofs.Common.{◌≡◌, ℕ, ◌<◌, ◌⊎◌, List, length, Ok, Err, Result, sym, ap, ◌∙◌, inl, inr, arith}
use Rattle.records.specs.declared.Record.{Record}
use Rattle.records.specs.declared.Size.{Size}
use Rattle.records.specs.Rendering.{file_text}
use Rattle.records.specs.Writes.{Wrote}
use Rattle.records.proofs.Texts.{wrote_one}
use Rattle.networks.specs.declared.faults.StudyFault.{StudyFault}
use Rattle.networks.specs.declared.faults.StudyFault.TheVariants.{Table}
use Rattle.networks.specs.declared.faults.TableFault.TheVariants.{NoMemory}
use Rattle.tables.specs.Makes as makes
use Rattle.tables.specs.Makes.{SizeMisfit, RecordsFault, Acceptable}
use Rattle.tables.proofs.OneAnswer.{size_or_misfit, one_fault}
use Rattle.netfiles.specs.Writing.{faulty, short, wanting, Writing, SizeTold}

module _ (s : Size) (rs : List Record) (old : List ℕ) where
  no_room : {end : ℕ} {text new : List ℕ} → Wrote text 0 old new end → length old < length text → ⊥
  no_room w l = let e = w.ends in let f = w.fits in omega arith

  pub size_told : (r : Result ℕ StudyFault) (new : List ℕ) → Writing s rs old r new → SizeTold s r
  size_told (Ok end) new w f m = absurd (size_or_misfit s f w.acceptable.size m)
  size_told (Err g) new (faulty t x e, d) f m = ap Err (e ∙ ap Table ((one_fault s rs).one t f x (makes.size m)))
  size_told (Err g) new (short a l e, d) f m = absurd (size_or_misfit s f a.size m)
  size_told (Err g) new (wanting fits e, d) f m = absurd (size_or_misfit s f fits m)

  pub only_writing : (r : Result ℕ StudyFault) (new : List ℕ) → Writing s rs old r new → (q : Result ℕ StudyFault) (bytes : List ℕ) → Writing s rs old q bytes → (r ≡ Err (Table NoMemory)) ⊎ (((q ≡ Err (Table NoMemory)) × (bytes ≡ old)) ⊎ ((q ≡ r) × (bytes ≡ new)))
  only_writing (Err f) new (wanting fits e, d) q bytes v = inl (ap Err e)
  only_writing (Ok end) new w (Ok stop) bytes v = let o = wrote_one (file_text s rs) 0 old new bytes end stop w.wrote v.wrote in inr (inr (ap Ok o.0, o.1))
  only_writing (Ok end) new w (Err g) bytes (faulty t x e, d) = absurd ((one_fault s rs).never_both t w.acceptable x)
  only_writing (Ok end) new w (Err g) bytes (short a l e, d) = absurd (no_room w.wrote l)
  only_writing (Ok end) new w (Err g) bytes (wanting fits e, d) = inr (inl (ap Err e, d))
  only_writing (Err f) new (faulty t x e, d) (Ok stop) bytes v = absurd ((one_fault s rs).never_both t v.acceptable x)
  only_writing (Err f) new (faulty t x e, d) (Err g) bytes (faulty u y i, j) = inr (inr (ap Err (i ∙ ap Table ((one_fault s rs).one u t y x) ∙ sym e), j ∙ sym d))
  only_writing (Err f) new (faulty t x e, d) (Err g) bytes (short a l i, j) = absurd ((one_fault s rs).never_both t a x)
  only_writing (Err f) new (faulty t x e, d) (Err g) bytes (wanting fits i, j) = inr (inl (ap Err i, j))
  only_writing (Err f) new (short a l e, d) (Ok stop) bytes v = absurd (no_room v.wrote l)
  only_writing (Err f) new (short a l e, d) (Err g) bytes (faulty u y i, j) = absurd ((one_fault s rs).never_both u a y)
  only_writing (Err f) new (short a l e, d) (Err g) bytes (short b m i, j) = inr (inr (ap Err (i ∙ sym e), j ∙ sym d))
  only_writing (Err f) new (short a l e, d) (Err g) bytes (wanting fits i, j) = inr (inl (ap Err i, j))
