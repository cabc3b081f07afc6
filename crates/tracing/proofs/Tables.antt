-- Tables of allowed pairs.
use Rattle.std.proofs.Common.{◌≡◌, ℕ, sym, ◌∙◌, inl, inr}
use Rattle.tracing.specs.Traces.{Tells}

-- there is one byte that tells whether something holds
pub tells_one : (P : Type 0) (x y : ℕ) → Tells P x → Tells P y → x ≡ y
tells_one P x y (inl p) (inl q) = p.1 ∙ sym q.1
tells_one P x y (inl p) (inr q) = absurd (q.0 p.0)
tells_one P x y (inr p) (inl q) = absurd (p.0 q.0)
tells_one P x y (inr p) (inr q) = p.1 ∙ sym q.1
