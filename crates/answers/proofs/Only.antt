-- What is printed for an input is the only text that may be.
use Rattle.std.proofs.Common.{◌≡◌, ℕ, ◌⊎◌, List, ◌++◌, sym, ap, ◌∙◌, subst, inl, inr, arith}
use Rattle.networks.specs.declared.faults.StudyFault.{StudyFault}
use Rattle.networks.specs.declared.faults.StudyFault.TheVariants.{Table}
use Rattle.networks.specs.Faults.{study_parts}
use Rattle.networks.specs.Nets.{Net, Conditions}
use Rattle.tables.specs.Drawn.{drawn}
use Rattle.tables.proofs.Limits.{drawn_conditions}
use Rattle.netfiles.proofs.Readings.{one_reading}
use Rattle.checks.proofs.Single.{one_check}
use Rattle.answers.specs.declared.Findings.{Findings}
use Rattle.answers.specs.Prints.{fault_line, verdict_line, verdict_text, channel_lines, Fits, Finds, Takes, Accepts, Rejects, long, refused, large, Prints, accepts, rejects, Starves, Answered}
use Rattle.answers.proofs.Lines.{lines_same}

-- what is found of a network is one
text_same : (n : Net) → Conditions n → (a b : Findings) → Finds n a → Finds n b → verdict_text a ≡ verdict_text b
text_same n ok a b x y =
    let s = one_check n ok x.table x.table' x.numbers a.numbers y.table y.table' y.numbers b.numbers x.load a.load y.load b.load a.certificate.check b.certificate.check x.long y.long x.certified.checked y.certified.checked in
    let lines = lines_same a.numbers b.numbers a.load b.load n.channels s.numbers s.packets in
    ap (λ c. verdict_line a.certificate.check ++ channel_lines a.numbers a.load c) x.channels ∙ (λ i. verdict_line (s.answers i) ++ lines i) ∙ ap (λ c. verdict_line b.certificate.check ++ channel_lines b.numbers b.load c) (sym y.channels)

module _ (input : List ℕ) where
  -- the network of an input that is taken, of which there is one
  pub conditions : (n : Net) → Takes input n → Conditions n
  conditions n x = subst Conditions (sym x.network) (drawn_conditions x.size x.list x.accepted.size x.accepted.fit)

  pub takes_one : (n m : Net) → Takes input n → Takes input m → m ≡ n
  takes_one n m x y =
      let same = (one_reading input 2048).one x.size y.size x.list y.list x.accepted y.accepted in
      y.network ∙ (λ i. drawn (sym same.0 i) (sym same.1 i)) ∙ sym x.network

  -- such an input has one text
  accepts_one : (n m : Net) (a b : Findings) → Accepts input n a → Accepts input m b → verdict_text a ≡ verdict_text b
  accepts_one n m a b x y = text_same n (conditions n x.takes) a b x.finds (subst (λ (k : Net). Finds k b) (takes_one n m x.takes y.takes) y.finds)

  -- and is not refused
  pub takes_or_rejects : (n : Net) (f : StudyFault) → Takes input n → Rejects input f → ⊥
  takes_or_rejects n f x (long h e) = let s = x.short in omega arith
  takes_or_rejects n f x (refused h t r e) = (one_reading input 2048).never_both x.size x.list t x.accepted r
  takes_or_rejects n f x (large h s rs r big e) = big (subst Fits ((one_reading input 2048).one x.size s x.list rs x.accepted r).0 x.fits)

  pub rejects_one : (f g : StudyFault) → Rejects input f → Rejects input g → f ≡ g
  rejects_one f g (long h e) (long k d) = e ∙ sym d
  rejects_one f g (long h e) (refused k t r d) = absurd (omega arith)
  rejects_one f g (long h e) (large k s rs r big d) = absurd (omega arith)
  rejects_one f g (refused h t r e) (long k d) = absurd (omega arith)
  rejects_one f g (refused h t r e) (refused k u q d) = e ∙ ap Table ((one_reading input 2048).one_fault t u r q) ∙ sym d
  rejects_one f g (refused h t r e) (large k s rs q big d) = absurd ((one_reading input 2048).never_both s rs t q r)
  rejects_one f g (large h s rs r big e) (long k d) = absurd (omega arith)
  rejects_one f g (large h s rs r big e) (refused k t q d) = absurd ((one_reading input 2048).never_both s rs t r q)
  rejects_one f g (large h s rs r big e) (large k s' rs' r' big' d) = e ∙ sym d

  module _ (text : List ℕ) where
    pub held : (n : Net) (a : Findings) → Accepts input n a → text ≡ verdict_text a → Answered input text
    held n a x e = inl (record { prints = accepts n a x e; only = one })
      where
        one : (other : List ℕ) → Prints input other → other ≡ text
        one other (accepts m b y d) = d ∙ accepts_one m n b a y x ∙ sym e
        one other (rejects f y d) = absurd (takes_or_rejects n f x.takes y)

    pub rejected : (f : StudyFault) → Rejects input f ⊎ Starves input f → text ≡ fault_line (study_parts f) → Answered input text
    rejected f (inl x) e = inl (record { prints = rejects f x e; only = one })
      where
        one : (other : List ℕ) → Prints input other → other ≡ text
        one other (accepts n b y d) = absurd (takes_or_rejects n f y.takes x)
        one other (rejects g y d) = d ∙ ap (λ z. fault_line (study_parts z)) (rejects_one g f y x) ∙ sym e
    rejected f (inr x) e = inr (subst (Starves input) x.fault x, e ∙ ap (λ z. fault_line (study_parts z)) x.fault)
