-- Faults that are told whatever memory there is.
use Rattle.std.proofs.Common.{◌≡◌, ℕ, ◌<◌, List, [], ◌∷◌, length, sym, refl, ap, inl, inr, arith}
use Rattle.lines.specs.Pieces.{RawLine, lines_of}
use Rattle.networks.specs.declared.faults.Buffer.TheVariants.{File}
use Rattle.networks.specs.declared.faults.StudyFault.{StudyFault}
use Rattle.networks.specs.declared.faults.StudyFault.TheVariants.{Table, Short}
use Rattle.networks.specs.declared.faults.TableFault.{TableFault}
use Rattle.networks.specs.declared.faults.TableFault.TheVariants.{NoMemory}
use Rattle.networks.specs.Faults.{study_parts}
use Rattle.netfiles.specs.Reading.{FirstLine, empty, first}
use Rattle.netfiles.proofs.Readings.{no_line, first_later}
use Rattle.answers.specs.Prints.{fault_line, Rejects, long, refused, rejects, Starves, Answered, EarlyTold}
use Rattle.answers.specs.Judgings.{Refereed, rejects as rejected}

module _ (input : List ℕ) where
  -- no memory is wanting there
  spared_long : Starves input (Table NoMemory) → 32768 < length input → ⊥
  spared_long s h = let l = s.short in omega arith

  spared_empty : Starves input (Table NoMemory) → lines_of input ≡ [] → ⊥
  spared_empty s e = no_line e s.wanting.lines

  spared_line : Starves input (Table NoMemory) → (l : RawLine) (ls : List RawLine) (f : TableFault) → lines_of input ≡ l ∷ ls → FirstLine l f → ⊥
  spared_line s l ls f e x = let w = s.wanting in first_later w.size f e w.lines w.says w.fits x

  module _ (text : List ℕ) (told : (f : StudyFault) → Rejects input f → (Starves input (Table NoMemory) → ⊥) → text ≡ fault_line (study_parts f)) where
    early : EarlyTold input text
    early =
        record {
          long = λ h. told (Short File) (long h refl) (λ s. spared_long s h);
          empty = λ e. told _ (refused (let n : length input ≡ 0 = ap length e in omega arith) _ (empty (ap lines_of e) refl) refl) (λ s. spared_empty s (ap lines_of e));
          line = λ h l ls f e x. told (Table f) (refused h f (first l ls e x) refl) (λ s. spared_line s l ls f e x);
        }

  pub early_answer : (text : List ℕ) → Answered input text → EarlyTold input text
  early_answer text (inl a) = early text (λ f x n. sym (a.only (fault_line (study_parts f)) (rejects f x refl)))
  early_answer text (inr s) = early text (λ f x n. absurd (n s.0))

  pub early_judged : (file text : List ℕ) → Refereed input file text → EarlyTold input text
  early_judged file text (inl a) = early text (λ f x n. sym (a.only (fault_line (study_parts f)) (rejected f x refl)))
  early_judged file text (inr s) = early text (λ f x n. absurd (n s.0))
