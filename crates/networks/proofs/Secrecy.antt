-- What does not show what a work area held.
use Rattle.std.proofs.Common.{◌≡◌, ℕ, List, length, Some, None, Option, sym, ap, ◌∙◌, arith}
use Rattle.std.proofs.lemmas.List.{ext_get_or}
use Rattle.networks.specs.Cleared.{AllZero}
use Rattle.networks.specs.declared.faults.Buffer.{Buffer}
use Rattle.networks.specs.declared.faults.StudyFault.{StudyFault}
use Rattle.networks.specs.declared.faults.StudyFault.TheVariants.{Short}

-- cleared work areas of one length
pub cleared_same : (xs ys : List ℕ) → length xs ≡ length ys → AllZero xs → AllZero ys → xs ≡ ys
cleared_same xs ys e x y = ext_get_or 0 xs ys e (λ i l. x i l ∙ sym (y i (omega (arith, e, l))))

-- the first buffer that is too short, where the same ones are lent
pub same_refusal : (o p : Option Buffer) → o ≡ p → (b c : Buffer) (f g : StudyFault) → o ≡ Some b → f ≡ Short b → p ≡ Some c → g ≡ Short c → f ≡ g
same_refusal o p e b c f g s short q other =
    let z : Some b ≡ Some c = sym s ∙ e ∙ q in
    let same : b ≡ c = cc in
    short ∙ ap Short same ∙ sym other

pub not_refused : (o p : Option Buffer) → o ≡ p → (b : Buffer) → o ≡ None → p ≡ Some b → ⊥
not_refused o p e b none some = let z : Some b ≡ None = sym some ∙ sym e ∙ none in cc
