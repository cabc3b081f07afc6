-- No two faults of a text have the same parts.
use Rattle.std.proofs.Common.{◌≡◌, ℕ, refl, ap, arith}
use Rattle.records.specs.declared.faults.Parts.{Parts}
use Rattle.records.specs.declared.faults.TextFault.{TextFault}
use Rattle.records.specs.declared.faults.TextFault.TheVariants.{NoSize, UnknownLetter, WrongShape, NoNumber, SizeAgain}
use Rattle.records.specs.Faults.{parts_of}

other : (p q : Parts) (m n : ℕ) → p ≡ q → p.number ≡ m → q.number ≡ n → (m ≡ n → ⊥) → ⊥
other p q m n e a b differ = differ (let c = ap (λ (x : Parts). x.number) e in cc)

pub own_parts : (f g : TextFault) → parts_of g ≡ parts_of f → g ≡ f
own_parts NoSize NoSize e = refl
own_parts NoSize (UnknownLetter l') e = absurd (other (parts_of (UnknownLetter l')) (parts_of NoSize) 11 10 e refl refl (λ z. omega arith))
own_parts NoSize (WrongShape l') e = absurd (other (parts_of (WrongShape l')) (parts_of NoSize) 12 10 e refl refl (λ z. omega arith))
own_parts NoSize (NoNumber l' i') e = absurd (other (parts_of (NoNumber l' i')) (parts_of NoSize) 13 10 e refl refl (λ z. omega arith))
own_parts NoSize (SizeAgain l') e = absurd (other (parts_of (SizeAgain l')) (parts_of NoSize) 14 10 e refl refl (λ z. omega arith))
own_parts (UnknownLetter l) NoSize e = absurd (other (parts_of NoSize) (parts_of (UnknownLetter l)) 10 11 e refl refl (λ z. omega arith))
own_parts (UnknownLetter l) (UnknownLetter l') e = ap UnknownLetter (ap (λ (p : Parts). p.line) e)
own_parts (UnknownLetter l) (WrongShape l') e = absurd (other (parts_of (WrongShape l')) (parts_of (UnknownLetter l)) 12 11 e refl refl (λ z. omega arith))
own_parts (UnknownLetter l) (NoNumber l' i') e = absurd (other (parts_of (NoNumber l' i')) (parts_of (UnknownLetter l)) 13 11 e refl refl (λ z. omega arith))
own_parts (UnknownLetter l) (SizeAgain l') e = absurd (other (parts_of (SizeAgain l')) (parts_of (UnknownLetter l)) 14 11 e refl refl (λ z. omega arith))
own_parts (WrongShape l) NoSize e = absurd (other (parts_of NoSize) (parts_of (WrongShape l)) 10 12 e refl refl (λ z. omega arith))
own_parts (WrongShape l) (UnknownLetter l') e = absurd (other (parts_of (UnknownLetter l')) (parts_of (WrongShape l)) 11 12 e refl refl (λ z. omega arith))
own_parts (WrongShape l) (WrongShape l') e = ap WrongShape (ap (λ (p : Parts). p.line) e)
own_parts (WrongShape l) (NoNumber l' i') e = absurd (other (parts_of (NoNumber l' i')) (parts_of (WrongShape l)) 13 12 e refl refl (λ z. omega arith))
own_parts (WrongShape l) (SizeAgain l') e = absurd (other (parts_of (SizeAgain l')) (parts_of (WrongShape l)) 14 12 e refl refl (λ z. omega arith))
own_parts (NoNumber l i) NoSize e = absurd (other (parts_of NoSize) (parts_of (NoNumber l i)) 10 13 e refl refl (λ z. omega arith))
own_parts (NoNumber l i) (UnknownLetter l') e = absurd (other (parts_of (UnknownLetter l')) (parts_of (NoNumber l i)) 11 13 e refl refl (λ z. omega arith))
own_parts (NoNumber l i) (WrongShape l') e = absurd (other (parts_of (WrongShape l')) (parts_of (NoNumber l i)) 12 13 e refl refl (λ z. omega arith))
own_parts (NoNumber l i) (NoNumber l' i') e = let a = ap (λ (p : Parts). p.line) e in let b = ap (λ (p : Parts). p.field) e in (λ i. NoNumber (a i) (b i))
own_parts (NoNumber l i) (SizeAgain l') e = absurd (other (parts_of (SizeAgain l')) (parts_of (NoNumber l i)) 14 13 e refl refl (λ z. omega arith))
own_parts (SizeAgain l) NoSize e = absurd (other (parts_of NoSize) (parts_of (SizeAgain l)) 10 14 e refl refl (λ z. omega arith))
own_parts (SizeAgain l) (UnknownLetter l') e = absurd (other (parts_of (UnknownLetter l')) (parts_of (SizeAgain l)) 11 14 e refl refl (λ z. omega arith))
own_parts (SizeAgain l) (WrongShape l') e = absurd (other (parts_of (WrongShape l')) (parts_of (SizeAgain l)) 12 14 e refl refl (λ z. omega arith))
own_parts (SizeAgain l) (NoNumber l' i') e = absurd (other (parts_of (NoNumber l' i')) (parts_of (SizeAgain l)) 13 14 e refl refl (λ z. omega arith))
own_parts (SizeAgain l) (SizeAgain l') e = ap SizeAgain (ap (λ (p : Parts). p.line) e)
