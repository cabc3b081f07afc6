-- The lines of a file and the fields of a line.
use Rattle.std.specs.Prelude.{◌≡◌, ℕ, ◌+◌, ◌<◌, Bool, true, false, cond, ◌⊎◌, List, [], ◌∷◌, ◌++◌, length, Some, None, Option, ◌==◌, ◌≢◌}
use Rattle.std.specs.List.{AllByRecursion}
use Rattle.lines.specs.declared.Line.{Line}

-- a line: its bytes without the byte 10, and whether a byte 10 ends it
abbrev pub RawLine : Type 0
RawLine = List ℕ × Bool

-- what a line that is handed out holds of the text
abbrev pub raw : Line → RawLine
raw line = (line.bytes.now, line.finished)

-- a byte in front of the first line
abbrev pub on_line : ℕ → List RawLine → List RawLine
on_line x [] = (x ∷ [], false) ∷ []
on_line x (l ∷ ls) = (x ∷ l.0, l.1) ∷ ls

-- the lines of a file
abbrev pub lines_of : List ℕ → List RawLine
lines_of [] = []
lines_of (x ∷ xs) = cond (x == 10) (([], true) ∷ lines_of xs) (on_line x (lines_of xs))

-- a byte in front of the first field
abbrev pub on_field : ℕ → List (List ℕ) → List (List ℕ)
on_field x [] = (x ∷ []) ∷ []
on_field x (f ∷ fs) = (x ∷ f) ∷ fs

-- the fields of a line: one more than it has bytes 9
abbrev pub fields_of : List ℕ → List (List ℕ)
fields_of [] = [] ∷ []
fields_of (x ∷ xs) = cond (x == 9) ([] ∷ fields_of xs) (on_field x (fields_of xs))

-- the fields that are still to come, where `rest` is the text of them, if any comes
abbrev pub fields_left : {A : Type 0} → (A → List ℕ) → Option A → List (List ℕ)
fields_left text None = []
fields_left text (Some rest) = fields_of (text rest)

-- so many fields are left at most: one more than their text has bytes
abbrev pub most_left : {A : Type 0} → (A → List ℕ) → Option A → ℕ
most_left text None = 0
most_left text (Some rest) = length (text rest) + 1

-- the byte x stands nowhere in the list
abbrev pub Lacks : ℕ → List ℕ → Type 0
Lacks x ys = AllByRecursion (λ y. y ≢ x) ys

-- the byte 10 that ends a line, if it is finished
abbrev pub ending : Bool → List ℕ
ending true = 10 ∷ []
ending false = []

-- the lines one after the other
abbrev pub file_of : List RawLine → List ℕ
file_of [] = []
file_of (l ∷ ls) = l.0 ++ (ending l.1 ++ file_of ls)

-- no line holds a byte 10, and only the last may be unfinished, which then is not empty
abbrev pub Whole : List RawLine → Type 0
Whole [] = Unit {0}
Whole (l ∷ []) = Lacks 10 l.0 × ((l.1 ≡ true) ⊎ (0 < length l.0))
Whole (l ∷ (m ∷ ls)) = Lacks 10 l.0 × (l.1 ≡ true) × Whole (m ∷ ls)

-- Those are the lines of the file, and there are no others that make it up.
pub record Lined (file : List ℕ) : Type 0 where
  pub joined : file_of (lines_of file) ≡ file
  pub whole : Whole (lines_of file)
  pub only : (ls : List RawLine) → Whole ls → file_of ls ≡ file → ls ≡ lines_of file

-- the fields with a byte 9 between each two
abbrev pub line_of : List (List ℕ) → List ℕ
line_of [] = []
line_of (f ∷ []) = f
line_of (f ∷ (g ∷ fs)) = f ++ (9 ∷ line_of (g ∷ fs))

-- no field holds a byte 9
abbrev pub Apart : List (List ℕ) → Type 0
Apart fs = AllByRecursion (Lacks 9) fs

-- Those are the fields of the line, and there are no others that make it up.
pub record Fielded (line : List ℕ) : Type 0 where
  pub some : 0 < length (fields_of line)
  pub joined : line_of (fields_of line) ≡ line
  pub apart : Apart (fields_of line)
  pub only : (fs : List (List ℕ)) → 0 < length fs → Apart fs → line_of fs ≡ line → fs ≡ fields_of line

-- A piece that is handed out after n others has the number n + 1, and m are handed out then; without one n and m are the same.
abbrev pub NextNumber : {A : Type 0} → ℕ → (A → ℕ) → Option A → ℕ → Type 0
NextNumber n number None m = m ≡ n
NextNumber n number (Some piece) m = (number piece ≡ n + 1) × (m ≡ number piece)
