-- What a file begins with, line by line.
use Rattle.std.proofs.Common.{◌≡◌, ℕ, ◌+◌, ◌<◌, true, Option, Some, None, MatchOption, is_some, option_and_then, List, [], ◌∷◌, ◌++◌, length, slice_index, set, sym, ap, ◌∙◌, subst, below_more, arith}
use Rattle.std.proofs.lemmas.List.{append_assoc, get_or-set_same, get_or-set_other}
use Rattle.lines.specs.Pieces.{RawLine, lines_of}
use Rattle.loads.specs.Loads.{packet, packet_in}
use Rattle.loads.proofs.Records.{get_set_same, get_set_other}
use Rattle.loads.specs.declared.LoadRecord.{LoadRecord}
use Rattle.checks.specs.declared.outcome.Check.{Check}
use Rattle.answers.specs.Prints.{verdict_line, channel_line, channel_lines}
use Rattle.answers.specs.Results.{Said, SaidOfAll, Begins, NoResult, verdict, channel, more, bad_line}
use Rattle.answers.specs.Rows.{Opening, Claim}
use Rattle.answers.proofs.Lines.{lines_none, lines_more, lines_same}

module _ (n : ℕ) (file : List ℕ) where
  pub unopened : ((k : Check) (rest : List ℕ) → Opening file k rest → ⊥) → NoResult n file bad_line 1
  unopened h = verdict (λ k rest s e. h k rest (record { short = s; text = e }))

  module _ (k : Check) where
    pub begun : (numbers : List ℕ) (load : List LoadRecord) (rest : List ℕ) → Opening file k rest → Begins file k 0 numbers load rest
    begun numbers load rest o =
        record { line = o.short; said = λ c h. absurd (omega arith); text = o.text ∙ ap (λ t. verdict_line k ++ (t ++ rest)) (sym (lines_none numbers load)) }

    module _ (c : ℕ) (numbers : List ℕ) (load : List LoadRecord) (rest : List ℕ) (b : Begins file k c numbers load rest) where
      pub untold : c < n → ((word : ℕ) (place : Option ℕ) (later : List ℕ) → Claim rest c word place later → ⊥) → NoResult n file bad_line (c + 2)
      untold l h = channel c l k numbers load rest b (λ word place later s e. h word place later (record { said = s; text = e }))

      -- one channel more, where all before it are as they were
      pub goes_on : (numbers' : List ℕ) (load' : List LoadRecord) (later : List ℕ) → Claim rest c (slice_index numbers' c) (packet load' c) later → ((i : ℕ) → i < c → slice_index numbers' i ≡ slice_index numbers i) → ((i : ℕ) → i < c → packet load' i ≡ packet load i) → Begins file k (c + 1) numbers' load' later
      goes_on numbers' load' later x same same' =
          record { line = b.line; said = said; text = text }
        where
          said : SaidOfAll (c + 1) numbers' load'
          said = below_more (λ i. Said (slice_index numbers' i) (packet load' i)) c (λ i l. rw (same i l, same' i l) (b.said i l)) x.said

          lines : channel_lines numbers load c ++ rest ≡ channel_lines numbers' load' (c + 1) ++ later
          lines =
              let before = sym (lines_same numbers' numbers load' load c same same') in
              (λ i. before i ++ x.text i) ∙ sym (append_assoc (channel_lines numbers' load' c) (channel_line c (slice_index numbers' c) (packet load' c)) later) ∙ ap (λ t. t ++ later) (sym (lines_more numbers' load' c))

          text : file ≡ verdict_line k ++ (channel_lines numbers' load' (c + 1) ++ later)
          text = b.text ∙ ap (λ t. verdict_line k ++ t) lines

      -- the same, where what the line says is written
      pub told : (i word : ℕ) (r : LoadRecord) (later : List ℕ) → i ≡ c → c < length numbers → c < length load → Claim rest c word (packet_in r) later → Begins file k (c + 1) (set numbers i word) (set load i r) later
      told i word r later at l m x =
          rw at (goes_on (set numbers c word) (set load c r) later (rw (get_or-set_same numbers c word 0 l, own) x) (λ j h. get_or-set_other numbers c j word 0 (omega arith)) (λ j h. ap (option_and_then packet_in) (get_set_other load c j r (λ e. omega arith))))
        where
          own : packet (set load c r) c ≡ packet_in r
          own = ap (option_and_then packet_in) (get_set_same load c r m)

    pub too_long : {A : Type 0} (m : ℕ) (numbers : List ℕ) (load : List LoadRecord) (rest : List ℕ) (next : Option A) (line : A → RawLine) (ls : List RawLine) → Begins file k m numbers load rest → m ≡ n → is_some next ≡ true → MatchOption next ((lines_of rest ≡ []) × (ls ≡ [])) (λ l. lines_of rest ≡ line l ∷ ls) → NoResult n file bad_line (n + 2)
    too_long m numbers load rest None line ls b at some e = cc
    too_long m numbers load [] (Some l) line ls b at some e = cc
    too_long m numbers load (x ∷ xs) (Some l) line ls b at some e = more k numbers load (x ∷ xs) (subst (λ i. Begins file k i numbers load (x ∷ xs)) at b) (omega arith)
