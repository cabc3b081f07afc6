-- Whether two pairs are the same.
use Rattle.std.proofs.Common.{◌≡◌, ℕ, false, ◌&&◌, eqb, ◌⊎◌, sym, inl, inr}
use Rattle.std.proofs.lemmas.Bool.{cases_eq, ne_eqb, and_left, and_right}

-- the pair (a, b) is (c, d), or the test says that it is not
pub data Same (a b c d : ℕ) : Type 0 where
  here : a ≡ c → b ≡ d → Same a b c d
  elsewhere : ((c ≡ a) × (d ≡ b) → ⊥) → (eqb a c && eqb b d) ≡ false → Same a b c d

pub same_pair : (a b c d : ℕ) → Same a b c d
same_pair a b c d = go (cases_eq a c) (cases_eq b d)
  where
    go : (a ≡ c) ⊎ (a ≡ c → ⊥) → (b ≡ d) ⊎ (b ≡ d → ⊥) → Same a b c d
    go (inl e) (inl f) = here e f
    go (inl e) (inr nf) = elsewhere (λ p. nf (sym p.1)) (and_right (eqb a c) (eqb b d) (ne_eqb b d nf))
    go (inr ne) q = elsewhere (λ p. ne (sym p.0)) (and_left (eqb a c) (eqb b d) (ne_eqb a c ne))
