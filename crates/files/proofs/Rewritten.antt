-- What rewriting a file answers is one, and so is what it leaves.
use Rattle.std.proofs.Common.{◌≡◌, ℕ, List, Ok, Err, Result, sym, refl, ap, ◌∙◌, arith}
use Rattle.records.specs.declared.writing.WriteFault.TheVariants.{LargeNumber, NoRoom}
use Rattle.records.proofs.Texts.{wrote_one}
use Rattle.files.specs.declared.rewriting.RewriteFault.{RewriteFault}
use Rattle.files.specs.declared.rewriting.RewriteFault.TheVariants.{Text, Line}
use Rattle.files.specs.Rewrites.{Rewrites}
use Rattle.files.proofs.OneAnswer.{reads_or_fault, fault_one}

pub one : (file old : List ℕ) (r : Result ℕ RewriteFault) (new : List ℕ) → Rewrites file old r new → (q : Result ℕ RewriteFault) (bytes : List ℕ) → Rewrites file old q bytes → (q ≡ r) × (bytes ≡ new)
one file old (Ok end) new w (Ok stop) bytes v = let o = wrote_one file 0 old new bytes end stop w.1 v.1 in (ap Ok o.0, o.1)
one file old (Ok end) new w (Err (Text f)) bytes v = let s = w.0 in absurd (reads_or_fault file s.0 s.1 f s.2 v.0)
one file old (Ok end) new w (Err (Line NoRoom)) bytes v = let e = w.1.ends in let f = w.1.fits in let l = v.1 in absurd (omega arith)
one file old (Ok end) new w (Err (Line LargeNumber)) bytes v = absurd v
one file old (Err (Text f)) new w (Ok stop) bytes v = let s = v.0 in absurd (reads_or_fault file s.0 s.1 f s.2 w.0)
one file old (Err (Text f)) new w (Err (Text g)) bytes v = (ap (λ z. Err (Text z)) (fault_one file g f v.0 w.0), v.1 ∙ sym w.1)
one file old (Err (Text f)) new w (Err (Line NoRoom)) bytes v = let s = v.0 in absurd (reads_or_fault file s.0 s.1 f s.2 w.0)
one file old (Err (Text f)) new w (Err (Line LargeNumber)) bytes v = absurd v
one file old (Err (Line NoRoom)) new w (Ok stop) bytes v = let e = v.1.ends in let f = v.1.fits in let l = w.1 in absurd (omega arith)
one file old (Err (Line NoRoom)) new w (Err (Text g)) bytes v = let s = w.0 in absurd (reads_or_fault file s.0 s.1 g s.2 v.0)
one file old (Err (Line NoRoom)) new w (Err (Line NoRoom)) bytes v = (refl, v.2 ∙ sym w.2)
one file old (Err (Line NoRoom)) new w (Err (Line LargeNumber)) bytes v = absurd v
one file old (Err (Line LargeNumber)) new w q bytes v = absurd w
