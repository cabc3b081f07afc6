use Rattle.std.proofs.Common.{◌∙◌, ap}
use Rattle.records.specs.declared.faults.Parts.{Parts}
use Rattle.editor.proofs.Secrecy.{entry_secret}
use Rattle.editor.proofs.Alike.{first_told}
use Rattle.editor.proofs.Entering.{judged, told}
use Rattle.editor.proofs.tenvarog_check.Goals as goal

pub returns-in-Ok-clause-enters : goal.returns-in-Ok-clause-enters
returns-in-Ok-clause-enters c = judged c.args.file.now _ _ _ _ _ _ _ _ _ _ c.in-Ok.ensures.studies c.number_of.ensures

pub returns-in-Err-clause-enters : goal.returns-in-Err-clause-enters
returns-in-Err-clause-enters c =
    rw (c.tell_place.ensures, c.parts-parts.ensures)
    (told c.args.file.now _ _ _ _ _ _ _ _ c.in-Err.refusal _ c.in-Err.ensures.studies (c.from.ensures ∙ ap (λ (p : Parts). p.number) c.parts-parts.ensures))

pub returns-in-Ok-clause-secret : goal.returns-in-Ok-clause-secret
returns-in-Ok-clause-secret c = entry_secret c.args.file.now _

pub returns-in-Err-clause-secret : goal.returns-in-Err-clause-secret
returns-in-Err-clause-secret c = entry_secret c.args.file.now _

pub returns-in-Ok-clause-first : goal.returns-in-Ok-clause-first
returns-in-Ok-clause-first c =
    first_told c.args.file.now _ _ _ _ (judged c.args.file.now _ _ _ _ _ _ (c.args.fault.now) _ _ _ c.in-Ok.ensures.studies c.number_of.ensures)

pub returns-in-Err-clause-first : goal.returns-in-Err-clause-first
returns-in-Err-clause-first c =
    first_told c.args.file.now _ _ _ _
    (told c.args.file.now _ _ _ _ _ _ (c.args.fault.now) _ c.in-Err.refusal _ c.in-Err.ensures.studies (c.from.ensures ∙ ap (λ (p : Parts). p.number) c.parts-parts.ensures))
