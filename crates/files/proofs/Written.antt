-- A line whose fields are a letter and numbers is how these are written.
use Rattle.std.proofs.Common.{◌≡◌, ℕ, Bool, true, List, [], ◌∷◌, ◌++◌, map, drop, decimal, sym, ap, ◌∙◌, subst}
use Rattle.std.proofs.lemmas.List.{append-nil}
use Rattle.lines.specs.Pieces.{RawLine, fields_of, line_of}
use Rattle.lines.proofs.Laws.{line_back}
use Rattle.records.specs.declared.Record.{Record}
use Rattle.records.specs.declared.Size.{Size}
use Rattle.records.specs.Rendering.{letter_n, numbers_text, line_text, size_numbers, letter_of, numbers_of, Small}
use Rattle.files.specs.Says.{SaysSize, SaysRecord, behind, HasNumbers}

pub line_of_numbers : (f : List ℕ) (ns : List ℕ) → line_of (f ∷ map decimal ns) ≡ f ++ numbers_text ns
line_of_numbers f [] = sym (append-nil f)
line_of_numbers f (n ∷ ns) = ap (λ t. f ++ (9 ∷ t)) (line_of_numbers (decimal n) ns)

same_line : (bs ds : List ℕ) (f g : Bool) → bs ≡ ds → f ≡ g → ◌≡◌ {A = RawLine} (bs, f) (ds, g)
same_line bs ds f g e h = cc

module _ (l : RawLine) (letter : ℕ) (ns : List ℕ) (left : List (List ℕ)) (e : fields_of l.0 ≡ (letter ∷ []) ∷ left) (h : HasNumbers l ns) where
  pub written : (code : ℕ) (ms : List ℕ) → letter ≡ code → ns ≡ ms → (l ≡ (line_text code ms, true)) × Small ms
  written code ms is same =
      let b : behind l ≡ left = ap (drop 1) e in
      let f = h.fields in
      let fs : fields_of l.0 ≡ (code ∷ []) ∷ map decimal ms = cc in
      let t : l.0 ≡ line_text code ms = sym (line_back l.0) ∙ ap line_of fs ∙ line_of_numbers (code ∷ []) ms in
      (same_line l.0 (line_text code ms) l.1 true t h.finished, subst Small same h.small)

  pub says_size : (s : Size) → letter ≡ letter_n → ns ≡ size_numbers s → SaysSize l s
  says_size s is same = let w = written letter_n (size_numbers s) is same in record { text = w.0; small = w.1 }

  pub says_record : (r : Record) → letter ≡ letter_of r → ns ≡ numbers_of r → SaysRecord l r
  says_record r is same = let w = written (letter_of r) (numbers_of r) is same in record { text = w.0; small = w.1 }
