-- Text written into bytes, piece after piece.
use Rattle.std.proofs.Common.{◌≡◌, ℕ, ◌+◌, ◌-◌, ◌/◌, ◌%◌, ◌^◌, ◌<◌, ◌≤◌, List, [], ◌∷◌, ◌++◌, length, get_or, take, drop, decimal, Ok, Err, Result, sym, refl, ap, ◌∙◌, arith}
use Rattle.std.proofs.lemmas.Fmt.{decimal_digit, decimal_step, length-decimal-le}
use Rattle.std.proofs.lemmas.List.{append_assoc, length-append, length_push, drop_more, drop_all, length-take-le, append-nil, take_at, take-append-drop, take_more, drop_at, drop-drop}
use Rattle.records.specs.declared.writing.WriteFault.{WriteFault}
use Rattle.records.specs.declared.writing.WriteFault.TheVariants.{LargeNumber, NoRoom}
use Rattle.records.specs.Rendering.{numbers_text, line_text, finished}
use Rattle.records.specs.Writes.{Wrote, WritesLine}

-- what was written, and what follows it
pub wrote_front : (text : List ℕ) (at : ℕ) (old new : List ℕ) (end : ℕ) → Wrote text at old new end → (take end new ≡ take at old ++ text) × (drop end new ≡ drop end old)
wrote_front text at old new end w =
    let l : length (take at old ++ text) ≡ end = length-append (take at old) text ∙ ap (λ n. n + length text) (length-take-le at old (let e = w.ends in let f = w.fits in omega arith)) ∙ sym w.ends in
    let b : new ≡ (take at old ++ text) ++ drop end old = w.bytes ∙ sym (append_assoc (take at old) text (drop end old)) in
    (ap (take end) b ∙ take_at (take at old ++ text) (drop end old) end l, ap (drop end) b ∙ drop_at (take at old ++ text) (drop end old) end l)

pub drop_later : (m n : ℕ) (xs ys : List ℕ) → n ≤ m → drop n xs ≡ drop n ys → drop m xs ≡ drop m ys
drop_later m n xs ys h e =
    let a : n + (m - n) ≡ m = omega arith in
    ap (λ k. drop k xs) (sym a) ∙ sym (drop-drop (m - n) n xs) ∙ ap (drop (m - n)) e ∙ drop-drop (m - n) n ys ∙ ap (λ k. drop k ys) a

pub wrote_then : (a b : List ℕ) (at mid end : ℕ) (old half new : List ℕ) → Wrote a at old half mid → length half ≡ length old → Wrote b mid half new end → Wrote (a ++ b) at old new end
wrote_then a b at mid end old half new w same v =
    let f = wrote_front a at old half mid w in
    let t = f.0 in
    let d = drop_later end mid half old (let e = v.ends in omega arith) f.1 in
    let n = v.bytes in
    let g = append_assoc (take at old) a (b ++ drop end old) in
    let h = append_assoc a b (drop end old) in
    record { ends = let l = length-append a b in let e = w.ends in let q = v.ends in omega arith; fits = let q = v.fits in omega arith; bytes = cc }

pub wrote_none : (at : ℕ) (old : List ℕ) → at ≤ length old → Wrote [] at old old at
wrote_none at old h = record { ends = omega arith; fits = h; bytes = sym (take-append-drop at old) }

text-append : (ms ns : List ℕ) → numbers_text (ms ++ ns) ≡ numbers_text ms ++ numbers_text ns
text-append [] ns = refl
text-append (m ∷ ms) ns = ap (λ t. 9 ∷ (decimal m ++ t)) (text-append ms ns) ∙ ap (λ t. 9 ∷ t) (sym (append_assoc (decimal m) (numbers_text ms) (numbers_text ns)))

text_take_more : (ns : List ℕ) (i : ℕ) → i < length ns → numbers_text (take (i + 1) ns) ≡ numbers_text (take i ns) ++ (9 ∷ decimal (get_or ns i 0))
text_take_more ns i h =
    ap numbers_text (take_more ns i 0 h) ∙ text-append (take i ns) (get_or ns i 0 ∷ []) ∙ ap (λ t. numbers_text (take i ns) ++ (9 ∷ t)) (append-nil (decimal (get_or ns i 0)))

pub one_digit : (n : ℕ) → n < 10 → length (decimal n) ≡ 1
one_digit n h = ap length (decimal_digit n h)

pub more_digits : (n : ℕ) → 10 ≤ n → n < 2 ^ 16 → length (decimal n) ≡ length (decimal (n / 10)) + 1
more_digits n h s = ap length (decimal_step n h (omega arith)) ∙ length_push (decimal (n / 10)) (48 + n % 10)

pub five_digits : (n : ℕ) → n < 2 ^ 16 → length (decimal n) ≤ 5
five_digits n h = length-decimal-le 5 n (omega arith) (omega arith) (omega arith)

pub length-text-step : (ns : List ℕ) (i : ℕ) → i < length ns → length (numbers_text (drop i ns)) ≡ length (decimal (get_or ns i 0)) + length (numbers_text (drop (i + 1) ns)) + 1
length-text-step ns i h =
    let e = ap (λ ms. length (numbers_text ms)) (drop_more ns i 0 h) in
    let l = length-append (decimal (get_or ns i 0)) (numbers_text (drop (i + 1) ns)) in
    omega arith

pub length-text-end : (ns : List ℕ) (i : ℕ) → length ns ≤ i → length (numbers_text (drop i ns)) ≡ 0
length-text-end ns i h = ap (λ ms. length (numbers_text ms)) (drop_all i ns h)

-- a tab and the digits of a number behind it
pub number_added : (line tabbed next : List ℕ) (n : ℕ) → tabbed ≡ line ++ (9 ∷ []) → next ≡ tabbed ++ decimal n → next ≡ line ++ (9 ∷ decimal n)
number_added line tabbed next n e f = f ∙ ap (λ t. t ++ decimal n) e ∙ append_assoc line (9 ∷ []) (decimal n)

-- a line with one number more
pub line_more : (letter : ℕ) (ns : List ℕ) (i : ℕ) (line next : List ℕ) → i < length ns → line ≡ letter ∷ numbers_text (take i ns) → next ≡ line ++ (9 ∷ decimal (get_or ns i 0)) → next ≡ letter ∷ numbers_text (take (i + 1) ns)
line_more letter ns i line next h e f = f ∙ ap (λ t. t ++ (9 ∷ decimal (get_or ns i 0))) e ∙ ap (λ t. letter ∷ t) (sym (text_take_more ns i h))

pub wrote_one : (text : List ℕ) (at : ℕ) (old new bytes : List ℕ) (end stop : ℕ) → Wrote text at old new end → Wrote text at old bytes stop → (stop ≡ end) × (bytes ≡ new)
wrote_one text at old new bytes end stop w v =
    let e : stop ≡ end = v.ends ∙ sym w.ends in
    (e, v.bytes ∙ ap (λ k. take at old ++ (text ++ drop k old)) e ∙ sym w.bytes)

-- what writing a line answers is one, and so is what it leaves
pub only_writes : (letter : ℕ) (ns : List ℕ) (at : ℕ) (old : List ℕ) (r : Result ℕ WriteFault) (new : List ℕ) → WritesLine letter ns at old r new → (q : Result ℕ WriteFault) (bytes : List ℕ) → WritesLine letter ns at old q bytes → (q ≡ r) × (bytes ≡ new)
only_writes letter ns at old (Ok end) new w (Ok stop) bytes v = let o = wrote_one (finished (line_text letter ns)) at old new bytes end stop w.1 v.1 in (ap Ok o.0, o.1)
only_writes letter ns at old (Ok end) new w (Err LargeNumber) bytes v = absurd (v.0 w.0)
only_writes letter ns at old (Ok end) new w (Err NoRoom) bytes v = let f = w.1.fits in let e = w.1.ends in let l = v.1 in absurd (omega arith)
only_writes letter ns at old (Err LargeNumber) new w (Ok stop) bytes v = absurd (w.0 v.0)
only_writes letter ns at old (Err LargeNumber) new w (Err LargeNumber) bytes v = (refl, v.1 ∙ sym w.1)
only_writes letter ns at old (Err LargeNumber) new w (Err NoRoom) bytes v = absurd (w.0 v.0)
only_writes letter ns at old (Err NoRoom) new w (Ok stop) bytes v = let f = v.1.fits in let e = v.1.ends in let l = w.1 in absurd (omega arith)
only_writes letter ns at old (Err NoRoom) new w (Err LargeNumber) bytes v = absurd (v.0 w.0)
only_writes letter ns at old (Err NoRoom) new w (Err NoRoom) bytes v = (refl, v.2 ∙ sym w.2)
