-- What a reader of pieces has still to hand out.
use Rattle.std.specs.Prelude.{ℕ}

-- the text of the pieces that are still to come, and how many were handed out
pub record Unread (Text : Type 0) : Type 0 where
  pub rest : Text
  pub passed : ℕ
