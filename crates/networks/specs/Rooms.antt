-- Lent buffers that are too short.
use Rattle.std.specs.Prelude.{ℕ, cond, List, [], ◌∷◌, Some, None, Option, nat_lt}
use Rattle.networks.specs.declared.faults.Buffer.{Buffer}

-- how long a buffer has to be, and how long it is
pub record Room : Type 0 where
  pub buffer : Buffer
  pub needed : ℕ
  pub given : ℕ

-- the first of the buffers that is too short
abbrev pub first_short : List Room → Option Buffer
first_short [] = None
first_short (r ∷ rs) = cond (nat_lt r.given r.needed) (Some r.buffer) (first_short rs)
