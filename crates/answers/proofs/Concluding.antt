-- What becomes of a network file and a result file.
use Rattle.std.proofs.Common.{◌≡◌, ℕ, ◌<◌, ◌≤◌, ◌⊎◌, List, ◌++◌, length, refl, ap, ◌∙◌, subst, inl, inr}
use Rattle.networks.specs.declared.faults.Buffer.TheVariants.{File}
use Rattle.networks.specs.declared.faults.StudyFault.{StudyFault}
use Rattle.networks.specs.declared.faults.StudyFault.TheVariants.{Short}
use Rattle.networks.specs.Faults.{study_parts}
use Rattle.networks.specs.Nets.{Net}
use Rattle.answers.specs.Prints.{fault_line, Finds, Takes, Rejects, Starves}
use Rattle.answers.specs.Results.{NoResult}
use Rattle.answers.specs.Rows.{bad_number, bad_at}
use Rattle.answers.specs.Judgings.{result_line, both_lines, Refereed, rejects as rejected, long as longer, no_result as none, judges}
use Rattle.answers.specs.Judgements.{ruling_line, Concludes, Refuses, rejects, starves, long, no_result}
use Rattle.answers.specs.declared.Findings.{Findings}
use Rattle.answers.specs.declared.results.ResultFault.{ResultFault}
use Rattle.answers.specs.declared.judging.Judgement.{Judgement}
use Rattle.answers.specs.declared.judging.Refusal.TheVariants.{Study, Result as OfResult}
use Rattle.answers.proofs.OneText.{only}

module _ (input file : List ℕ) where
  pub refused : (f : StudyFault) → Rejects input f ⊎ Starves input f → Refuses input file (Study f)
  refused f (inl x) = rejects f x refl
  refused f (inr x) = starves f x refl

  module _ (n : Net) (t : Takes input n) where
    pub too_long : (f : StudyFault) → 32768 < length file → f ≡ Short File → Refuses input file (Study f)
    too_long f h e = long n t h (ap Study e)

    pub unread : (a : Findings) → Finds n a → length file ≤ 32768 → (f : ResultFault) → NoResult a.channels file (bad_number f) (bad_at f) → Refuses input file (OfResult f)
    unread a x h f r = no_result n t h f (subst (λ (k : ℕ). NoResult k file (bad_number f) (bad_at f)) x.channels r) refl

  module _ (text : List ℕ) where
    pub judged : (j : Judgement) → Concludes input file j → text ≡ ruling_line j.ruling ++ both_lines j.findings.numbers j.findings.load j.claims.numbers j.claims.load j.findings.channels → Refereed input file text
    judged j x e =
        inl (only input file text (judges x.network j.findings x.accepts x.short j.claims.check j.claims.numbers j.claims.load x.result (ruling_line j.ruling) x.judged (e ∙ ap (λ c. ruling_line j.ruling ++ both_lines j.findings.numbers j.findings.load j.claims.numbers j.claims.load c) x.accepts.finds.channels)))

    pub told : (f : StudyFault) → Refuses input file (Study f) → text ≡ fault_line (study_parts f) → Refereed input file text
    told f (rejects g x s) e = let same : f ≡ g = cc in inl (only input file text (rejected g x (e ∙ ap (λ z. fault_line (study_parts z)) same)))
    told f (starves g x s) e = let same : f ≡ g = cc in inr (subst (Starves input) x.fault x, e ∙ ap (λ z. fault_line (study_parts z)) (same ∙ x.fault))
    told f (long n t h s) e = let same : f ≡ Short File = cc in inl (only input file text (longer n t h (e ∙ ap (λ z. fault_line (study_parts z)) same)))
    told f (no_result n t h g x s) e = absurd (cc)

    pub told_bad : (f : ResultFault) → Refuses input file (OfResult f) → text ≡ result_line (bad_number f) (bad_at f) → Refereed input file text
    told_bad f (rejects g x s) e = absurd (cc)
    told_bad f (starves g x s) e = absurd (cc)
    told_bad f (long n t h s) e = absurd (cc)
    told_bad f (no_result n t h g x s) e = let same : f ≡ g = cc in inl (only input file text (none n t h (bad_number g) (bad_at g) x (e ∙ ap (λ z. result_line (bad_number z) (bad_at z)) same)))
