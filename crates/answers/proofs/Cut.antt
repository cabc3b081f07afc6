-- Files that are cut off behind the first byte too many are answered as whole ones are.
use Rattle.std.proofs.Common.{◌≡◌, ℕ, ◌<◌, ◌⊎◌, List, length, take, refl, subst, inl, inr, arith}
use Rattle.std.proofs.lemmas.Bool.{cases_order}
use Rattle.std.proofs.lemmas.List.{length-take-le, take_all}
use Rattle.networks.specs.declared.faults.Buffer.TheVariants.{File}
use Rattle.networks.specs.declared.faults.StudyFault.TheVariants.{Short}
use Rattle.answers.specs.Prints.{Answered, long}
use Rattle.answers.specs.Judgings.{Refereed, Referees, rejects, long as longer, no_result, judges}
use Rattle.answers.proofs.Early.{early_answer, early_judged}
use Rattle.answers.proofs.OneText.{only}
use Rattle.answers.proofs.Only.{rejected}

-- a list is its front, or that has just so many items
cut_or_whole : (n : ℕ) (xs : List ℕ) → (take n xs ≡ xs) ⊎ ((length (take n xs) ≡ n) × (n < length xs))
cut_or_whole n xs = go (cases_order n (length xs))
  where
    go : (n ≡ length xs) ⊎ ((n < length xs) ⊎ (length xs < n)) → (take n xs ≡ xs) ⊎ ((length (take n xs) ≡ n) × (n < length xs))
    go (inl e) = inl (take_all n xs (omega arith))
    go (inr (inl h)) = inr (length-take-le n xs (omega arith), h)
    go (inr (inr h)) = inl (take_all n xs (omega arith))

pub whole : (input text : List ℕ) → Answered (take 32769 input) text → Answered input text
whole input text a = go (cut_or_whole 32769 input)
  where
    go : (take 32769 input ≡ input) ⊎ ((length (take 32769 input) ≡ 32769) × (32769 < length input)) → Answered input text
    go (inl e) = subst (λ (xs : List ℕ). Answered xs text) e a
    go (inr h) = rejected input text (Short File) (inl (long (omega (arith, h.1)) refl)) ((early_answer (take 32769 input) text a).long (omega (arith, h.0)))

pub both_whole : (input file text : List ℕ) → Refereed (take 32769 input) (take 32769 file) text → Refereed input file text
both_whole input file text a = go (cut_or_whole 32769 input)
  where
    part : Refereed input (take 32769 file) text → Refereed input file text
    part b = parted (cut_or_whole 32769 file)
      where
        same : length (take 32769 file) ≡ 32769 → 32769 < length file → Refereed input (take 32769 file) text → Refereed input file text
        same l h (inr s) = inr s
        same l h (inl x) = again x.referees
          where
            again : Referees input (take 32769 file) text → Refereed input file text
            again (rejects f y e) = inl (only input file text (rejects f y e))
            again (longer n t g e) = inl (only input file text (longer n t (omega arith) e))
            again (no_result n t g num line r e) = absurd (omega arith)
            again (judges n f t g k numbers load r line j e) = absurd (omega arith)

        parted : (take 32769 file ≡ file) ⊎ ((length (take 32769 file) ≡ 32769) × (32769 < length file)) → Refereed input file text
        parted (inl e) = subst (λ (xs : List ℕ). Refereed input xs text) e b
        parted (inr h) = same h.0 h.1 b

    go : (take 32769 input ≡ input) ⊎ ((length (take 32769 input) ≡ 32769) × (32769 < length input)) → Refereed input file text
    go (inl e) = part (subst (λ (xs : List ℕ). Refereed xs (take 32769 file) text) e a)
    go (inr h) = inl (only input file text (rejects (Short File) (long (omega (arith, h.1)) refl) ((early_judged (take 32769 input) (take 32769 file) text a).long (omega (arith, h.0)))))
