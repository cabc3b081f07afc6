-- What is seen of a reader of network files.
use Rattle.std.specs.Prelude.{ℕ, List}
use Rattle.lines.specs.Pieces.{RawLine}

-- the file, the lines that are still to be read, and how many were passed
pub record ReaderView : Type 0 where
  pub file : List ℕ
  pub left : List RawLine
  pub passed : ℕ
