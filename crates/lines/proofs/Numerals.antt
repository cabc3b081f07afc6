-- What one to four digits spell.
use Rattle.std.proofs.Common.{◌≡◌, ℕ, ◌+◌, ◌-◌, ◌*◌, ◌<◌, ◌≤◌, List, length, take, get_or, decimal, sym, refl, ap, ◌∙◌, subst, inl, inr, arith}
use Rattle.std.specs.Str.Parse.{AllDigits}
use Rattle.std.proofs.lemmas.Int.Digits.{digits_more, digits_value_more}
use Rattle.std.proofs.lemmas.List.{take_all, length-take-le}
use Rattle.std.proofs.lemmas.Str.{digit_value_digit}
use Rattle.std.specs.Int.{IsInRange}
use Rattle.std.specs.Str.Parse.{digits_value}
use Rattle.std.proofs.lemmas.Fmt.{digits_decimal, decimal_digit, length-decimal-le, decimal_nonempty, first_decimal, decimal-digits_value, decimal_injective}
use Rattle.std.proofs.lemmas.Str.Parse.{IsNumeralModel, numerals_by_value, tells_by_index, digits_value_short}
use Rattle.std.proofs.lemmas.Bool.{cases_eq}
use Rattle.lines.specs.Numbers.{Spelled, Spells}

own : IsNumeralModel (λ bs. (k : ℕ) → k < length bs → IsInRange 48 57 (get_or bs k 0)) (digits_value 10)
own = numerals_by_value _ tells_by_index

zero_alone : (n : ℕ) → n < 10000 → get_or (decimal n) 0 0 ≡ 48 → length (decimal n) ≡ 1
zero_alone n h at =
    elim (cases_eq n 0) [
      | inl z ↦ ap length (ap decimal z ∙ decimal_digit 0 (omega arith))
      | inr z ↦ let f = first_decimal n (omega arith) (omega arith) in absurd (omega arith)
    ]

-- what a number below 10,000 is written as is spelled by the rule
pub decimal_spelled : (n : ℕ) → n < 10000 → Spelled (decimal n)
decimal_spelled n h =
    record {
      some = decimal_nonempty n (omega arith);
      few = length-decimal-le 4 n (omega arith) h (omega arith);
      digits = digits_decimal own n (omega arith);
      leading = zero_alone n h;
    }

pub spells_one : (bs : List ℕ) (m n : ℕ) → Spells bs m → Spells bs n → m ≡ n
spells_one bs m n s t = decimal_injective m n (let h = s.small in omega arith) (let h = t.small in omega arith) (sym s.written ∙ t.written)

-- The first k bytes are digits, and write the number n.
pub record Upto (bs : List ℕ) (k n : ℕ) : Type 0 where
  pub digits : AllDigits 10 (take k bs)
  pub value : n ≡ digits_value 10 (take k bs)

pub none_yet : (bs : List ℕ) → Upto bs 0 0
none_yet bs = record { digits = tt; value = refl }

module _ (bs : List ℕ) (k n : ℕ) (few : length bs ≤ 4) (there : k < length bs) (u : Upto bs k n) where
  pub upto_small : n < 1000
  upto_small =
      let l = digits_value_short own (take k bs) 3 (own.from (take k bs) u.digits) (omega (arith, length-take-le k bs (omega arith))) in
      omega (arith, u.value, l)

  pub one_more : IsInRange 48 57 (get_or bs k 0) → Upto bs (k + 1) (10 * n + (get_or bs k 0 - 48))
  one_more d =
      let v = digit_value_digit (get_or bs k 0) d in
      record {
        digits = digits_more 10 bs k there u.digits (omega (arith, v, d.1));
        value = sym (digits_value_more 10 bs k there ∙ omega (arith, u.value, v));
      }

-- short digits without a leading zero spell their value
pub all_spell : (bs : List ℕ) (n : ℕ) → 0 < length bs → length bs ≤ 4 → (get_or bs 0 0 ≡ 48 → length bs ≤ 1) → Upto bs (length bs) n → Spelled bs × Spells bs n
all_spell bs n some few leading u =
    let all = take_all (length bs) bs (omega arith) in
    let digits : (k : ℕ) → k < length bs → IsInRange 48 57 (get_or bs k 0) = own.from bs (subst (AllDigits 10) all u.digits) in
    let lead : get_or bs 0 0 ≡ 48 → length bs ≡ 1 = λ z. let l = leading z in omega arith in
    let small = digits_value_short own bs 4 digits few in
    let value : n ≡ digits_value 10 bs = u.value ∙ ap (digits_value 10) all in (
      record { some = some; few = few; digits = digits; leading = lead },
      record { small = omega (arith, small, value); written = sym (decimal-digits_value own bs digits some lead (omega (arith, small))) ∙ ap decimal (sym value) },
    )
