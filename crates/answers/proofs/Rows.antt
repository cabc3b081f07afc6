-- Lines of four fields at the front of what is left of a file.
use Rattle.std.proofs.Common.{◌≡◌, ℕ, ◌<◌, ◌≤◌, true, false, Option, Some, None, MatchOption, List, [], ◌∷◌, ◌++◌, decimal, codes, nat_eq, nat_lt, cond, refl, sym, ap, ◌∙◌, subst, arith}
use Rattle.std.proofs.lemmas.List.{append_assoc}
use Rattle.std.specs.List.{list_all}
use Rattle.std.proofs.lemmas.Bool.{ne_eqb, and_parts, ltb-true}
use Rattle.lines.specs.Numbers.{Spelled, Spells}
use Rattle.lines.specs.Pieces.{RawLine, Lacks, lines_of, file_of, fields_of, line_of}
use Rattle.lines.proofs.Laws.{lines_finished, lined, line_back, fields_back}
use Rattle.lines.proofs.Numerals.{decimal_spelled, spells_one}
use Rattle.files.proofs.OneLine.{lacks_decimal}
use Rattle.numbering.specs.Numbers.{held_number}
use Rattle.checks.specs.Words.{verdict_word}
use Rattle.checks.specs.declared.outcome.Check.{Check}
use Rattle.checks.specs.declared.outcome.Verdict.{Verdict}
use Rattle.checks.specs.declared.outcome.Verdict.TheVariants.{Free, Blocked}
use Rattle.answers.specs.Prints.{mark, number_of}
use Rattle.answers.specs.Results.{Said, number, place}
use Rattle.answers.specs.Rows.{Row, Opening, Claim}

lacks_append : (x : ℕ) (xs ys : List ℕ) → Lacks x xs → Lacks x ys → Lacks x (xs ++ ys)
lacks_append x [] ys h k = k
lacks_append x (y ∷ xs) ys h k = (h.0, lacks_append x xs ys h.1 k)

-- the text of four fields
abbrev four : List ℕ → List ℕ → List ℕ → List ℕ → List ℕ → List ℕ
four a b c d rest = a ++ (9 ∷ (b ++ (9 ∷ (c ++ (9 ∷ (d ++ rest))))))

-- Neither a tab nor a line feed is in the field.
record Plain (f : List ℕ) : Type 0 where
  pub tab : Lacks 9 f
  pub feed : Lacks 10 f

row_of : (a b c d more : List ℕ) → Plain a → Plain b → Plain c → Plain d → Row (four a b c d (10 ∷ more)) a b c d more
row_of a b c d more p q r s =
    record {
      line = line_of fs;
      first = ap lines_of joined ∙ lines_finished (line_of fs) more feed;
      fields = fields_back fs (omega arith) (p.tab, (q.tab, (r.tab, (s.tab, tt))));
    }
  where
    fs : List (List ℕ)
    fs = a ∷ (b ∷ (c ∷ (d ∷ [])))

    joined : four a b c d (10 ∷ more) ≡ line_of fs ++ (10 ∷ more)
    joined = simp append_assoc

    after : (f g : List ℕ) → Plain f → Lacks 10 g → Lacks 10 (f ++ (9 ∷ g))
    after f g h k = lacks_append 10 f (9 ∷ g) h.feed ((λ e. let z : ◌≡◌ {A = ℕ} 9 10 = e in absurd (omega arith)), k)

    feed : Lacks 10 (line_of fs)
    feed = after a (b ++ (9 ∷ (c ++ (9 ∷ d)))) p (after b (c ++ (9 ∷ d)) q (after c d r s.feed))

module _ (rest a b c d more : List ℕ) (r : Row rest a b c d more) where
  row_text : rest ≡ four a b c d (10 ∷ more)
  row_text =
      let back : rest ≡ r.line ++ (10 ∷ file_of (lines_of more)) = sym (lined rest).joined ∙ ap file_of r.first in
      let line : r.line ≡ line_of (a ∷ (b ∷ (c ∷ (d ∷ [])))) = sym (line_back r.line) ∙ ap line_of r.fields in
      back ∙ (λ i. line i ++ (10 ∷ (lined more).joined i)) ∙ simp append_assoc

-- Two rows at the front of the same rest are one.
record Same (a b c d more a' b' c' d' more' : List ℕ) : Type 0 where
  pub first : a ≡ a'
  pub second : b ≡ b'
  pub third : c ≡ c'
  pub fourth : d ≡ d'
  pub after : more ≡ more'

row_one : (rest a b c d more a' b' c' d' more' : List ℕ) → Row rest a b c d more → Row rest a' b' c' d' more' → Same a b c d more a' b' c' d' more'
row_one rest a b c d more a' b' c' d' more' r s =
    let lines : (r.line, true) ∷ lines_of more ≡ (s.line, true) ∷ lines_of more' = sym r.first ∙ s.first in
    let line : ◌≡◌ {A = RawLine} (r.line, true) (s.line, true) = cc in
    let later : lines_of more ≡ lines_of more' = cc in
    let fs : a ∷ (b ∷ (c ∷ (d ∷ []))) ≡ a' ∷ (b' ∷ (c' ∷ (d' ∷ []))) = sym r.fields ∙ ap (λ (l : RawLine). fields_of l.0) line ∙ s.fields in
    record { first = cc; second = cc; third = cc; fourth = cc; after = sym (lined more).joined ∙ ap file_of later ∙ (lined more').joined }

plain_decimal : (n : ℕ) → n < 10000 → Plain (decimal n)
plain_decimal n h = record { tab = lacks_decimal 9 n (omega arith) h; feed = lacks_decimal 10 n (omega arith) h }

above : (x : ℕ) (f : List ℕ) → x ≤ 10 → list_all (λ y. nat_lt 10 y) f ≡ true → Lacks x f
above x [] h e = tt
above x (y ∷ ys) h e =
    let p = and_parts (nat_lt 10 y) (list_all (λ z. nat_lt 10 z) ys) e in
    let l = ltb-true 10 y p.0 in
    ((λ q. omega arith), above x ys h p.1)

plain_word : (f : List ℕ) → list_all (λ y. nat_lt 10 y) f ≡ true → Plain f
plain_word f e = record { tab = above 9 f (omega arith) e; feed = above 10 f (omega arith) e }

plain_verdict : (v : Verdict) → Plain (verdict_word v)
plain_verdict Free = plain_word (codes "free") refl
plain_verdict Blocked = plain_word (codes "blocked") refl

verdict_one : (v w : Verdict) → verdict_word v ≡ verdict_word w → v ≡ w
verdict_one Free Free e = refl
verdict_one Free Blocked e = cc
verdict_one Blocked Free e = cc
verdict_one Blocked Blocked e = refl

decimal_one : (m n : ℕ) → m < 10000 → n < 10000 → decimal m ≡ decimal n → m ≡ n
decimal_one m n h k e = spells_one (decimal m) m n (record { small = h; written = refl }) (record { small = k; written = e })

spelled_as : (f : List ℕ) (n : ℕ) → n < 10000 → f ≡ decimal n → Spelled f
spelled_as f n h e = subst Spelled (sym e) (decimal_spelled n h)

-- a first line as a row
opening_row : (rest : List ℕ) (k : Check) (more : List ℕ) → Opening rest k more → Row rest (codes "verdict") (verdict_word k.verdict) (decimal k.numbering.greatest) (decimal k.numbering.held) more
opening_row rest k more o =
    let word : List ℕ = verdict_word k.verdict in
    let greatest : List ℕ = decimal k.numbering.greatest in
    let held : List ℕ = decimal k.numbering.held in
    let text : rest ≡ four (codes "verdict") word greatest held (10 ∷ more) = o.text ∙ simp append_assoc in
    subst (λ t. Row t (codes "verdict") word greatest held more) (sym text)
    (row_of (codes "verdict") word greatest held more (plain_word (codes "verdict") refl) (plain_verdict k.verdict) (plain_decimal k.numbering.greatest o.short.greatest) (plain_decimal k.numbering.held o.short.held))

module _ (rest name word greatest held after : List ℕ) (r : Row rest name word greatest held after) where
  same_opening : (k : Check) (more : List ℕ) → Opening rest k more → Same name word greatest held after (codes "verdict") (verdict_word k.verdict) (decimal k.numbering.greatest) (decimal k.numbering.held) more
  same_opening k more o = row_one rest name word greatest held after _ _ _ _ _ r (opening_row rest k more o)

  pub not_named : (name ≡ codes "verdict" → ⊥) → (k : Check) (more : List ℕ) → Opening rest k more → ⊥
  not_named h k more o = h (same_opening k more o).first

  pub not_worded : ((v : Verdict) → word ≡ verdict_word v → ⊥) → (k : Check) (more : List ℕ) → Opening rest k more → ⊥
  not_worded h k more o = h k.verdict (same_opening k more o).second

  pub no_greatest : (Spelled greatest → ⊥) → (k : Check) (more : List ℕ) → Opening rest k more → ⊥
  no_greatest h k more o = h (spelled_as greatest k.numbering.greatest o.short.greatest (same_opening k more o).third)

  pub no_held : (Spelled held → ⊥) → (k : Check) (more : List ℕ) → Opening rest k more → ⊥
  no_held h k more o = h (spelled_as held k.numbering.held o.short.held (same_opening k more o).fourth)

  pub opened : (k : Check) → name ≡ codes "verdict" → word ≡ verdict_word k.verdict → Spells greatest k.numbering.greatest → Spells held k.numbering.held → Opening rest k after
  opened k n w g h =
      record {
        short = record { greatest = g.small; held = h.small };
        text = row_text rest name word greatest held after r ∙ (λ i. four (n i) (w i) (g.written i) (h.written i) (10 ∷ after)) ∙ simp append_assoc;
      }

pub no_row : (rest : List ℕ) → ((a b c d more : List ℕ) → Row rest a b c d more → ⊥) → (k : Check) (more : List ℕ) → Opening rest k more → ⊥
no_row rest h k more o = h _ _ _ _ _ (opening_row rest k more o)

number_short : (m : ℕ) → m < 10000 → number_of m ≡ Some m
number_short m h = let ne : nat_eq m held_number ≡ false = ne_eqb m held_number (λ e. omega arith) in ap (λ b. cond b None (Some m)) ne

plain_mark : (o : Option ℕ) → ((n : ℕ) → o ≡ Some n → n < 10000) → Plain (mark o)
plain_mark None h = plain_word (codes "-") refl
plain_mark (Some n) h = plain_decimal n (h n refl)

said_number : (word : ℕ) (d : Option ℕ) → Said word d → (n : ℕ) → number_of word ≡ Some n → n < 10000
said_number word d (number m h) n e = let same : Some m ≡ Some n = sym (number_short m h) ∙ e in let k : m ≡ n = cc in omega arith
said_number word d (place p h) n e = let z : None ≡ Some n = e in cc

said_place : (word : ℕ) (d : Option ℕ) → Said word d → (n : ℕ) → d ≡ Some n → n < 10000
said_place word d (number m h) n e = cc
said_place word d (place p h) n e = let k : p ≡ n = cc in omega arith

-- the line of a channel as a row
claim_row : (rest : List ℕ) (c word : ℕ) (d : Option ℕ) (more : List ℕ) → c < 10000 → Claim rest c word d more → Row rest (codes "c") (decimal c) (mark (number_of word)) (mark d) more
claim_row rest c word d more h x =
    let text : rest ≡ four (codes "c") (decimal c) (mark (number_of word)) (mark d) (10 ∷ more) = x.text ∙ simp append_assoc in
    subst (λ t. Row t (codes "c") (decimal c) (mark (number_of word)) (mark d) more) (sym text)
    (row_of (codes "c") (decimal c) (mark (number_of word)) (mark d) more (plain_word (codes "c") refl) (plain_decimal c h) (plain_mark (number_of word) (said_number word d x.said)) (plain_mark d (said_place word d x.said)))

pub no_claim_row : (rest : List ℕ) (c : ℕ) → c < 10000 → ((a b c d more : List ℕ) → Row rest a b c d more → ⊥) → (word : ℕ) (d : Option ℕ) (more : List ℕ) → Claim rest c word d more → ⊥
no_claim_row rest c l h word d more x = h _ _ _ _ _ (claim_row rest c word d more l x)

module _ (rest : List ℕ) (c : ℕ) (name own numeral spot after : List ℕ) (l : c < 10000) (r : Row rest name own numeral spot after) where
  same_claim : (word : ℕ) (d : Option ℕ) (more : List ℕ) → Claim rest c word d more → Same name own numeral spot after (codes "c") (decimal c) (mark (number_of word)) (mark d) more
  same_claim word d more x = row_one rest name own numeral spot after _ _ _ _ _ r (claim_row rest c word d more l x)

  pub other_name : (name ≡ codes "c" → ⊥) → (word : ℕ) (d : Option ℕ) (more : List ℕ) → Claim rest c word d more → ⊥
  other_name h word d more x = h (same_claim word d more x).first

  pub no_channel : (Spelled own → ⊥) → (word : ℕ) (d : Option ℕ) (more : List ℕ) → Claim rest c word d more → ⊥
  no_channel h word d more x = h (spelled_as own c l (same_claim word d more x).second)

  pub other_channel : (n : ℕ) → Spells own n → (n ≡ c → ⊥) → (word : ℕ) (d : Option ℕ) (more : List ℕ) → Claim rest c word d more → ⊥
  other_channel n s h word d more x = h (decimal_one n c s.small l (sym s.written ∙ (same_claim word d more x).second))

  pub nothing_told : ((word : ℕ) (d : Option ℕ) → Said word d → numeral ≡ mark (number_of word) → spot ≡ mark d → ⊥) → (word : ℕ) (d : Option ℕ) (more : List ℕ) → Claim rest c word d more → ⊥
  nothing_told h word d more x = let s = same_claim word d more x in h word d x.said s.third s.fourth

  pub claimed : (word : ℕ) (d : Option ℕ) → name ≡ codes "c" → Spells own c → Said word d → numeral ≡ mark (number_of word) → spot ≡ mark d → Claim rest c word d after
  claimed word d n s x m p =
      record {
        said = x;
        text = row_text rest name own numeral spot after r ∙ (λ i. four (n i) (s.written i) (m i) (p i) (10 ∷ after)) ∙ simp append_assoc;
      }

-- one of the two fields is a dash, and the other spells a number
module _ (numeral spot : List ℕ) where
  dash_no_number : (f : List ℕ) → f ≡ codes "-" → Spelled f → ⊥
  dash_no_number f e s = let d = (subst Spelled e s).digits 0 (omega arith) in omega arith

  pub told_number : (n : ℕ) → Spells numeral n → spot ≡ codes "-" → Said n None × (numeral ≡ mark (number_of n)) × (spot ≡ mark None)
  told_number n s e = (number n s.small, s.written ∙ ap mark (sym (number_short n s.small)), e)

  pub no_number : (Spelled numeral → ⊥) → spot ≡ codes "-" → (word : ℕ) (d : Option ℕ) → Said word d → numeral ≡ mark (number_of word) → spot ≡ mark d → ⊥
  no_number h e word d (number m k) n p = h (spelled_as numeral m k (n ∙ ap mark (number_short m k)))
  no_number h e word d (place q k) n p = dash_no_number spot e (spelled_as spot q k p)

  pub told_place : (n : ℕ) → Spells spot n → numeral ≡ codes "-" → Said held_number (Some n) × (numeral ≡ mark (number_of held_number)) × (spot ≡ mark (Some n))
  told_place n s e = (place n s.small, e, s.written)

  pub no_place : (Spelled spot → ⊥) → numeral ≡ codes "-" → (word : ℕ) (d : Option ℕ) → Said word d → numeral ≡ mark (number_of word) → spot ≡ mark d → ⊥
  no_place h e word d (number m k) n p = dash_no_number numeral e (spelled_as numeral m k (n ∙ ap mark (number_short m k)))
  no_place h e word d (place q k) n p = h (spelled_as spot q k p)

-- there is one first line
pub opening_one : (rest : List ℕ) (k m : Check) (more later : List ℕ) → Opening rest k more → Opening rest m later → (k ≡ m) × (more ≡ later)
opening_one rest k m more later x y =
    let s = row_one rest _ _ _ _ _ _ _ _ _ _ (opening_row rest k more x) (opening_row rest m later y) in
    let v = verdict_one k.verdict m.verdict s.second in
    let g = decimal_one k.numbering.greatest m.numbering.greatest x.short.greatest y.short.greatest s.third in
    let h = decimal_one k.numbering.held m.numbering.held x.short.held y.short.held s.fourth in
    ((λ i. record { verdict = v i; numbering = record { greatest = g i; held = h i } }), s.after)

dash_or_decimal : (n : ℕ) → n < 10000 → codes "-" ≡ decimal n → ⊥
dash_or_decimal n h e = let d = (spelled_as (codes "-") n h e).digits 0 (omega arith) in omega arith

mark_one : (o p : Option ℕ) → ((n : ℕ) → o ≡ Some n → n < 10000) → ((n : ℕ) → p ≡ Some n → n < 10000) → mark o ≡ mark p → o ≡ p
mark_one None None h k e = refl
mark_one None (Some n) h k e = absurd (dash_or_decimal n (k n refl) e)
mark_one (Some m) None h k e = absurd (dash_or_decimal m (h m refl) (sym e))
mark_one (Some m) (Some n) h k e = ap Some (decimal_one m n (h m refl) (k n refl) e)

word_one : (word word' : ℕ) (d d' : Option ℕ) → Said word d → Said word' d' → number_of word ≡ number_of word' → word ≡ word'
word_one word word' d d' (number m h) (number n k) e = let s : Some m ≡ Some n = sym (number_short m h) ∙ e ∙ number_short n k in cc
word_one word word' d d' (number m h) (place q k) e = let s : Some m ≡ None = sym (number_short m h) ∙ e in cc
word_one word word' d d' (place p h) (number n k) e = let s : None ≡ Some n = e ∙ number_short n k in cc
word_one word word' d d' (place p h) (place q k) e = refl

-- Two lines of a channel at the front of the same rest say the same.
pub record SameClaim (one other : ℕ) (d d' : Option ℕ) (later later' : List ℕ) : Type 0 where
  pub word : one ≡ other
  pub place : d ≡ d'
  pub rest : later ≡ later'

pub claim_one : (rest : List ℕ) (c word word' : ℕ) (d d' : Option ℕ) (more more' : List ℕ) → c < 10000 → Claim rest c word d more → Claim rest c word' d' more' → SameClaim word word' d d' more more'
claim_one rest c word word' d d' more more' l x y =
    let s = row_one rest _ _ _ _ _ _ _ _ _ _ (claim_row rest c word d more l x) (claim_row rest c word' d' more' l y) in
    let n = mark_one (number_of word) (number_of word') (said_number word d x.said) (said_number word' d' y.said) s.third in
    record { word = word_one word word' d d' x.said y.said n; place = mark_one d d' (said_place word d x.said) (said_place word' d' y.said) s.fourth; rest = s.after }

-- what is weaker of each answer
pub matched : {T : Type 0} (r : Option T) {P P' : Type 0} {Q Q' : T → Type 0} → MatchOption r P Q → (P → P') → ((x : T) → Q x → Q' x) → MatchOption r P' Q'
matched None h f g = f h
matched (Some x) h f g = g x h
