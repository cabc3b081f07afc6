-- What the first line of a file says, and what the next one does, is one thing.
use Rattle.std.proofs.Common.{◌≡◌, ℕ, ◌+◌, List, [], ◌∷◌, Some, None, Ok, Err, Option, Result, sym, refl, ap, ◌∙◌, subst, arith}
use Rattle.lines.specs.Pieces.{RawLine}
use Rattle.records.specs.declared.faults.TextFault.{TextFault}
use Rattle.records.specs.declared.Record.{Record}
use Rattle.records.specs.declared.Size.{Size}
use Rattle.files.specs.Says.{SaysRecord, RecordFault, FirstSays, NextSays, OneSaying}
use Rattle.files.proofs.OneLine.{size_or_fault, size_one, size_fault_one, record_or_fault, record_one, record_fault_one}

first_one : (ls : List RawLine) (r q : Result Size TextFault) → FirstSays ls r → FirstSays ls q → r ≡ q
first_one [] r q x y = x ∙ sym y
first_one (l ∷ ls) (Ok s) (Ok t) x y = ap Ok (size_one l s t x y)
first_one (l ∷ ls) (Ok s) (Err f) x y = absurd (size_or_fault l s f x y)
first_one (l ∷ ls) (Err f) (Ok s) x y = absurd (size_or_fault l s f y x)
first_one (l ∷ ls) (Err f) (Err g) x y = ap Err (size_fault_one l f g x y)

no_line : {l : RawLine} {ls xs : List RawLine} → xs ≡ [] → xs ≡ l ∷ ls → ⊥
no_line e d = let z : ◌≡◌ {A = ℕ} 0 1 = cc in omega arith

heads : {l l' : RawLine} {ls ls' xs : List RawLine} → xs ≡ l ∷ ls → xs ≡ l' ∷ ls' → l' ≡ l
heads e d = cc

tails : {l l' : RawLine} {ls ls' xs : List RawLine} → xs ≡ l ∷ ls → xs ≡ l' ∷ ls' → ls ≡ ls'
tails e d = cc

next_one : (n m k : ℕ) (ls left rest : List RawLine) (r q : Option (Result Record TextFault)) → NextSays n ls r m left → NextSays n ls q k rest → (r ≡ q) × (m ≡ k) × (left ≡ rest)
next_one n m k ls left rest None None x y = (refl, x.2 ∙ sym y.2, x.1 ∙ sym y.1)
next_one n m k ls left rest None (Some (Ok q)) x y = absurd (no_line x.0 y.1)
next_one n m k ls left rest None (Some (Err g)) x y = absurd (no_line x.0 y.1)
next_one n m k ls left rest (Some (Ok r)) None x y = absurd (no_line y.0 x.1)
next_one n m k ls left rest (Some (Err f)) None x y = absurd (no_line y.0 x.1)
next_one n m k ls left rest (Some (Ok r)) (Some (Ok q)) x y =
    (ap (λ z. Some (Ok z)) (record_one x.0 r q x.2 (subst (λ (l : RawLine). SaysRecord l q) (heads x.1 y.1) y.2)), x.3 ∙ sym y.3, tails x.1 y.1)
next_one n m k ls left rest (Some (Ok r)) (Some (Err g)) x y = absurd (record_or_fault (n + 1) x.0 r g x.2 (subst (λ (l : RawLine). RecordFault (n + 1) l g) (heads x.1 y.1) y.2))
next_one n m k ls left rest (Some (Err f)) (Some (Ok q)) x y = absurd (record_or_fault (n + 1) x.0 q f (subst (λ (l : RawLine). SaysRecord l q) (heads x.1 y.1) y.2) x.2)
next_one n m k ls left rest (Some (Err f)) (Some (Err g)) x y =
    (ap (λ z. Some (Err z)) (record_fault_one (n + 1) x.0 f g x.2 (subst (λ (l : RawLine). RecordFault (n + 1) l g) (heads x.1 y.1) y.2)), x.3 ∙ sym y.3, tails x.1 y.1)

pub one_saying : OneSaying
one_saying = record { first = first_one; next = next_one }
