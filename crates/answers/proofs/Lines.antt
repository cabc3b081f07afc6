-- The lines of channels, one by one.
use Rattle.std.proofs.Common.{◌≡◌, ℕ, zero, suc, ◌+◌, ◌<◌, List, [], ◌++◌, slice_index, refl, sym, ap, ◌∙◌, subst, arith}
use Rattle.std.proofs.lemmas.List.{append-nil, append_assoc}
use Rattle.loads.specs.Loads.{packet}
use Rattle.loads.specs.declared.LoadRecord.{LoadRecord}
use Rattle.answers.specs.Judgings.{both_line, both_lines}
use Rattle.answers.specs.Prints.{channel_line, channel_lines}

pub lines_none : (numbers : List ℕ) (load : List LoadRecord) → channel_lines numbers load 0 ≡ []
unfolding channel_lines
lines_none numbers load = refl

pub lines_more : (numbers : List ℕ) (load : List LoadRecord) (c : ℕ) → channel_lines numbers load (c + 1) ≡ channel_lines numbers load c ++ channel_line c (slice_index numbers c) (packet load c)
unfolding channel_lines
lines_more numbers load c = let e : suc c ≡ c + 1 = omega arith in subst (λ (k : ℕ). channel_lines numbers load k ≡ channel_lines numbers load c ++ channel_line c (slice_index numbers c) (packet load c)) e refl

-- the lines of channels with the same numbers and packets
pub lines_same : (ns ms : List ℕ) (ls ks : List LoadRecord) (n : ℕ) → ((c : ℕ) → c < n → slice_index ns c ≡ slice_index ms c) → ((c : ℕ) → c < n → packet ls c ≡ packet ks c) → channel_lines ns ls n ≡ channel_lines ms ks n
unfolding channel_lines
lines_same ns ms ls ks zero numbers packets = refl
lines_same ns ms ls ks (suc c) numbers packets =
    let before = lines_same ns ms ls ks c (λ i l. numbers i (omega arith)) (λ i l. packets i (omega arith)) in
    let w = numbers c (omega arith) in
    let p = packets c (omega arith) in
    λ i. before i ++ channel_line c (w i) (p i)

module _ (numbers : List ℕ) (load : List LoadRecord) (head : List ℕ) where
  pub begun : (text : List ℕ) → text ≡ head → text ≡ head ++ channel_lines numbers load 0
  begun text e = e ∙ sym (append-nil head) ∙ ap (λ ls. head ++ ls) (sym (lines_none numbers load))

  pub one_more : (text line : List ℕ) (c : ℕ) → text ≡ head ++ channel_lines numbers load c → line ≡ channel_line c (slice_index numbers c) (packet load c) → text ++ line ≡ head ++ channel_lines numbers load (c + 1)
  one_more text line c e f =
      (λ i. e i ++ f i) ∙ append_assoc head (channel_lines numbers load c) (channel_line c (slice_index numbers c) (packet load c)) ∙ ap (λ ls. head ++ ls) (sym (lines_more numbers load c))

-- the same of the lines that tell what both files say
module _ (numbers : List ℕ) (load : List LoadRecord) (numbers' : List ℕ) (load' : List LoadRecord) (head : List ℕ) where
  pub both_begun : (text : List ℕ) → text ≡ head → text ≡ head ++ both_lines numbers load numbers' load' 0
  unfolding both_lines
  both_begun text e = e ∙ sym (append-nil head)

  both_step : (c : ℕ) → both_lines numbers load numbers' load' (c + 1) ≡ both_lines numbers load numbers' load' c ++ both_line c (slice_index numbers c) (packet load c) (slice_index numbers' c) (packet load' c)
  unfolding both_lines
  both_step c =
      let e : suc c ≡ c + 1 = omega arith in
      subst (λ (k : ℕ). both_lines numbers load numbers' load' k ≡ both_lines numbers load numbers' load' c ++ both_line c (slice_index numbers c) (packet load c) (slice_index numbers' c) (packet load' c)) e refl

  pub both_more : (text line : List ℕ) (c : ℕ) → text ≡ head ++ both_lines numbers load numbers' load' c → line ≡ both_line c (slice_index numbers c) (packet load c) (slice_index numbers' c) (packet load' c) → text ++ line ≡ head ++ both_lines numbers load numbers' load' (c + 1)
  both_more text line c e f =
      (λ i. e i ++ f i) ∙ append_assoc head (both_lines numbers load numbers' load' c) (both_line c (slice_index numbers c) (packet load c) (slice_index numbers' c) (packet load' c)) ∙ ap (λ ls. head ++ ls) (sym (both_step c))

pub both_same : (ns ms : List ℕ) (ls ks : List LoadRecord) (ns' ms' : List ℕ) (ls' ks' : List LoadRecord) (n : ℕ) → ((c : ℕ) → c < n → slice_index ns c ≡ slice_index ms c) → ((c : ℕ) → c < n → packet ls c ≡ packet ks c) → ((c : ℕ) → c < n → slice_index ns' c ≡ slice_index ms' c) → ((c : ℕ) → c < n → packet ls' c ≡ packet ks' c) → both_lines ns ls ns' ls' n ≡ both_lines ms ks ms' ks' n
unfolding both_lines
both_same ns ms ls ks ns' ms' ls' ks' zero w p w' p' = refl
both_same ns ms ls ks ns' ms' ls' ks' (suc c) w p w' p' =
    let before = both_same ns ms ls ks ns' ms' ls' ks' c (λ i l. w i (omega arith)) (λ i l. p i (omega arith)) (λ i l. w' i (omega arith)) (λ i l. p' i (omega arith)) in
    let a = w c (omega arith) in
    let b = p c (omega arith) in
    let d = w' c (omega arith) in
    let e = p' c (omega arith) in
    λ i. before i ++ both_line c (a i) (b i) (d i) (e i)
