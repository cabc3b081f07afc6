-- What is printed for a network file and a result file is the only text that may be.
use Rattle.std.proofs.Common.{◌≡◌, ℕ, ◌<◌, List, ◌++◌, slice_index, sym, ap, ◌∙◌, subst, arith}
use Rattle.networks.specs.Faults.{study_parts}
use Rattle.networks.specs.Nets.{Net, Conditions}
use Rattle.loads.specs.Loads.{packet}
use Rattle.loads.specs.declared.LoadRecord.{LoadRecord}
use Rattle.checks.proofs.Single.{one_check}
use Rattle.checks.specs.declared.outcome.Check.{Check}
use Rattle.checks.specs.declared.outcome.Verdict.TheVariants.{Free, Blocked}
use Rattle.answers.specs.declared.Findings.{Findings}
use Rattle.answers.specs.Prints.{fault_line, Takes, Accepts}
use Rattle.answers.specs.Results.{IsResult, NoResult}
use Rattle.answers.specs.Judgings.{result_line, numbers_line, load_line, both_lines, Judged, of_numbers, of_load, Referees, OnlyReferees, rejects, long, no_result, judges}
use Rattle.answers.proofs.Lines.{both_same}
use Rattle.answers.proofs.Only.{conditions, takes_one, takes_or_rejects, rejects_one}
use Rattle.answers.proofs.OneResult.{result_one, result_or_bad, bad_one}
use Rattle.answers.proofs.Rulings.{one_of_numbers, one_of_loads}

other_verdict : (k k' : Check) → k ≡ k' → k.verdict ≡ Free → k'.verdict ≡ Blocked → ⊥
other_verdict k k' same e f = let z : Free ≡ Blocked = sym e ∙ ap (λ (m : Check). m.verdict) same ∙ f in cc

module _ (n : Net) (ok : Conditions n) (k k' : Check) (numbers numbers' : List ℕ) (load load' : List LoadRecord) (same : k ≡ k') (words : (c : ℕ) → c < n.channels → slice_index numbers c ≡ slice_index numbers' c) (packets : (c : ℕ) → c < n.channels → packet load c ≡ packet load' c) where
  -- what is judged of a result has one line
  judged_one : (line line' : List ℕ) → Judged n k numbers load line → Judged n k' numbers' load' line' → line ≡ line'
  judged_one line line' (of_numbers t t' j e x) (of_numbers s s' j' f y) = ap numbers_line (one_of_numbers n ok t t' s s' numbers numbers' j j' words x y)
  judged_one line line' (of_numbers t t' j e x) (of_load s s' j' f y) = absurd (other_verdict k k' same e f)
  judged_one line line' (of_load t t' j e x) (of_numbers s s' j' f y) = absurd (other_verdict k' k (sym same) f e)
  judged_one line line' (of_load t t' j e x) (of_load s s' j' f y) = ap load_line (one_of_loads n ok t t' s s' load load' j j' packets x y)

module _ (input file : List ℕ) where
  few : (n : Net) → Takes input n → n.channels < 10000
  few n t = let e : n.channels ≡ t.size.channels = ap (λ (m : Net). m.channels) t.network in omega (arith, e, t.fits.channels)

  -- the texts of two judgements of one network
  module _ (n : Net) (a b : Findings) (t : Accepts input n a) (u : Accepts input n b) (k k' : Check) (numbers numbers' : List ℕ) (load load' : List LoadRecord) (x : IsResult n.channels file k numbers load) (y : IsResult n.channels file k' numbers' load') where
    judges_one : (line line' : List ℕ) → Judged n k numbers load line → Judged n k' numbers' load' line' → line ++ both_lines a.numbers a.load numbers load n.channels ≡ line' ++ both_lines b.numbers b.load numbers' load' n.channels
    judges_one line line' p q =
        let f = t.finds in
        let g = u.finds in
        let ok = conditions input n t.takes in
        let s = one_check n ok f.table f.table' f.numbers a.numbers g.table g.table' g.numbers b.numbers f.load a.load g.load b.load a.certificate.check b.certificate.check f.long g.long f.certified.checked g.certified.checked in
        let r = result_one n.channels (few n t.takes) file k k' numbers numbers' load load' x y in
        let first = judged_one n ok k k' numbers numbers' load load' r.check r.words r.packets line line' p q in
        let lines = both_same a.numbers b.numbers a.load b.load numbers numbers' load load' n.channels s.numbers s.packets r.words r.packets in
        λ i. first i ++ lines i

  one : (text other : List ℕ) → Referees input file text → Referees input file other → other ≡ text
  one text other (rejects f x e) (rejects g y d) = d ∙ ap (λ z. fault_line (study_parts z)) (rejects_one input g f y x) ∙ sym e
  one text other (rejects f x e) (long n t h d) = absurd (takes_or_rejects input n f t x)
  one text other (rejects f x e) (no_result n t h num line r d) = absurd (takes_or_rejects input n f t x)
  one text other (rejects f x e) (judges n a t h k numbers load r line j d) = absurd (takes_or_rejects input n f t.takes x)
  one text other (long n t h e) (rejects f x d) = absurd (takes_or_rejects input n f t x)
  one text other (long n t h e) (long m u i d) = d ∙ sym e
  one text other (long n t h e) (no_result m u i num line r d) = absurd (omega arith)
  one text other (long n t h e) (judges m b u i k numbers load r line j d) = absurd (omega arith)
  one text other (no_result n t h num line r e) (rejects f x d) = absurd (takes_or_rejects input n f t x)
  one text other (no_result n t h num line r e) (long m u i d) = absurd (omega arith)
  one text other (no_result n t h num line r e) (no_result m u i num' line' r' d) =
      let same = takes_one input n m t u in
      let s = bad_one n.channels (few n t) file num' line' num line (subst (λ (l : Net). NoResult l.channels file num' line') same r') r in
      d ∙ (λ i. result_line (s.0 i) (s.1 i)) ∙ sym e
  one text other (no_result n t h num line r e) (judges m b u i k numbers load r' first j d) =
      let same = takes_one input n m t u.takes in
      absurd (result_or_bad n.channels (few n t) file k numbers load num line (subst (λ (l : Net). IsResult l.channels file k numbers load) same r') r)
  one text other (judges n a t h k numbers load r first j e) (rejects f x d) = absurd (takes_or_rejects input n f t.takes x)
  one text other (judges n a t h k numbers load r first j e) (long m u i d) = absurd (omega arith)
  one text other (judges n a t h k numbers load r first j e) (no_result m u i num line r' d) =
      let same = takes_one input n m t.takes u in
      absurd (result_or_bad n.channels (few n t.takes) file k numbers load num line r (subst (λ (l : Net). NoResult l.channels file num line) same r'))
  one text other (judges n a t h k numbers load r first j e) (judges m b u i k' numbers' load' r' first' j' d) =
      let same = takes_one input n m t.takes u.takes in
      let u' = subst (λ (l : Net). Accepts input l b) same u in
      let s = subst (λ (l : Net). IsResult l.channels file k' numbers' load') same r' in
      let q = subst (λ (l : Net). Judged l k' numbers' load' first') same j' in
      let lines = ap (λ (l : Net). first' ++ both_lines b.numbers b.load numbers' load' l.channels) same in
      d ∙ lines ∙ judges_one n b a u' t k' k numbers' numbers load' load s r first' first q j ∙ sym e

  pub only : (text : List ℕ) → Referees input file text → OnlyReferees input file text
  only text x = record { referees = x; only = λ other y. one text other x y }
