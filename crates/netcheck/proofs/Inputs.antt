-- What is read of an input.
use Rattle.std.proofs.Common.{◌≡◌, ℕ, ◌+◌, ◌≤◌, List, ◌++◌, length, take, drop, Some, None, Option, IfSome, ◌∙◌, sym, ap, subst, drop_at, length-take-le}
use borrow.Rule.Slice.PartMut.{put_mid, post_of}
use lib.Seq.{take-add, take-append-le}
use Rattle.answers.specs.Judgings.{Refereed}
use Rattle.answers.specs.Prints.{Answered}
use Rattle.answers.proofs.Cut.{whole, both_whole}

-- the front of a buffer grows by what a read wrote behind it
pub grown : (a k n : ℕ) (xs ys : List ℕ) → a ≤ length xs → n ≤ length ys → take a (put_mid a k xs ys) ≡ take a xs → take a xs ++ take n ys ≡ take (a + n) (put_mid a k xs ys)
grown a k n xs ys within fits front =
    let after = post_of a k xs in
    let behind = drop_at (take a xs) (ys ++ after) a (length-take-le a xs within) in
    sym (take-add a n (put_mid a k xs ys) ∙ ap (λ l. l ++ take n (drop a (put_mid a k xs ys))) front ∙ ap (λ l. take a xs ++ take n l) behind ∙ ap (λ l. take a xs ++ l) (take-append-le n ys after fits))

-- what was read is answered as all that there is to read
pub answered : (input : Option (List ℕ)) (most : ℕ) (items text : List ℕ) → IfSome input (λ xs. items ≡ take most xs) → Answered items text → most ≡ 32769 → IfSome input (λ xs. Answered xs text)
answered None most items text h a room = h
answered (Some xs) most items text h a room = whole xs text (subst (λ (ys : List ℕ). Answered ys text) (h ∙ ap (λ n. take n xs) room) a)

pub judged : (input : Option (List ℕ)) (most : ℕ) (items file text : List ℕ) → IfSome input (λ xs. items ≡ take most xs) → Refereed items file text → most ≡ 32769 → IfSome input (λ xs. (all : List ℕ) → file ≡ take 32769 all → Refereed xs all text)
judged None most items file text h a room = h
judged (Some xs) most items file text h a room =
    λ all f. both_whole xs all text (subst (λ (ys : List ℕ). Refereed ys (take 32769 all) text) (h ∙ ap (λ n. take n xs) room) (subst (λ (ys : List ℕ). Refereed items ys text) f a))
