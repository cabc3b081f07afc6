-- How sizes, records and files are written.
use Rattle.std.specs.Prelude.{ℕ, ◌<◌, List, [], ◌∷◌, ◌++◌, decimal}
use Rattle.std.specs.List.{AllByRecursion, flat_map}
use Rattle.records.specs.declared.Record.{Record}
use Rattle.records.specs.declared.Record.TheVariants.{Entry, Home, Way}
use Rattle.records.specs.declared.Size.{Size}

-- the letters that lines begin with: n for the size, e for an entry, h for home, w for a way
abbrev pub letter_n : ℕ
letter_n = 110

abbrev pub letter_e : ℕ
letter_e = 101

abbrev pub letter_h : ℕ
letter_h = 104

abbrev pub letter_w : ℕ
letter_w = 119

-- each number behind a byte 9
abbrev pub numbers_text : List ℕ → List ℕ
numbers_text [] = []
numbers_text (n ∷ ns) = 9 ∷ (decimal n ++ numbers_text ns)

-- a line without the byte 10 that ends it
abbrev pub line_text : ℕ → List ℕ → List ℕ
line_text letter ns = letter ∷ numbers_text ns

-- the numbers behind the letter n
abbrev pub size_numbers : Size → List ℕ
size_numbers s = s.channels ∷ (s.places ∷ [])

abbrev pub size_text : Size → List ℕ
size_text s = line_text letter_n (size_numbers s)

abbrev pub letter_of : Record → ℕ
letter_of (Entry c d) = letter_e
letter_of (Home c d) = letter_h
letter_of (Way c d h) = letter_w

abbrev pub numbers_of : Record → List ℕ
numbers_of (Entry c d) = c ∷ (d ∷ [])
numbers_of (Home c d) = c ∷ (d ∷ [])
numbers_of (Way c d h) = c ∷ (d ∷ (h ∷ []))

abbrev pub record_text : Record → List ℕ
record_text r = line_text (letter_of r) (numbers_of r)

-- each line is ended by a byte 10
abbrev pub finished : List ℕ → List ℕ
finished line = line ++ (10 ∷ [])

abbrev pub file_text : Size → List Record → List ℕ
file_text s rs = finished (size_text s) ++ flat_map (λ r. finished (record_text r)) rs

-- every number has at most four digits
abbrev pub Small : List ℕ → Type 0
Small ns = AllByRecursion (λ n. n < 10000) ns

abbrev pub AllSmall : List Record → Type 0
AllSmall rs = AllByRecursion (λ r. Small (numbers_of r)) rs
