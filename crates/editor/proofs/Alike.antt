-- What the entry gives for a file is the only thing that it may give.
use Rattle.std.proofs.Common.{◌≡◌, ℕ, ◌<◌, List, Some, None, Ok, Err, slice_index, refl, sym, ap, ◌∙◌, subst, inl, inr, arith}
use native.Mathlib.Decide.{dec_lt}
use Rattle.records.specs.declared.faults.TextFault.TheVariants.{NoSize}
use Rattle.networks.specs.Faults.{study_parts}
use Rattle.networks.specs.Nets.{Net, Conditions}
use Rattle.networks.specs.declared.faults.StudyFault.{StudyFault}
use Rattle.networks.specs.declared.faults.StudyFault.TheVariants.{Table, Short}
use Rattle.networks.specs.declared.faults.TableFault.{TableFault}
use Rattle.networks.specs.declared.faults.TableFault.TheVariants.{Text, NoMemory}
use Rattle.tables.specs.Drawn.{drawn}
use Rattle.tables.specs.Makes.{most}
use Rattle.tables.proofs.Limits.{drawn_conditions}
use Rattle.tracing.proofs.Secrecy.{same_bytes}
use Rattle.netfiles.specs.Reading.{Refused, empty, first, Wanting}
use Rattle.netfiles.proofs.Readings.{one_reading, no_line, first_later}
use Rattle.checks.proofs.Single.{one_check, SameCheck}
use Rattle.checks.specs.declared.outcome.Check.{Check}
use Rattle.checks.specs.declared.outcome.Verdict.{Verdict}
use Rattle.editor.specs.Entry.{number_told, Buffers, place_word, with_place, Takes, short_of, Found, Judged, Reason, refused, short, Told, Gives, judges, refuses, Same, Enters, Starves, Starved, Entered, FirstTold}

-- one check of a network
module _ (n : Net) (ok : Conditions n) (before : Buffers) (v w : Verdict) (after other : Buffers) (x : Found n before v after) (y : Found n before w other) where
  same : SameCheck n after.numbers other.numbers (x).load' (y).load' (x).check (y).check
  same = one_check n ok before.allowed after.allowed before.numbers after.numbers before.allowed other.allowed before.numbers other.numbers x.load x.load' y.load y.load' x.check y.check x.long y.long x.checked y.checked

  verdict_one : w ≡ v
  verdict_one = y.verdict ∙ ap (λ (k : Check). k.verdict) (sym same.answers) ∙ sym x.verdict

  allowed_one : (k : ℕ) → slice_index other.allowed k ≡ slice_index after.allowed k
  allowed_one = same_bytes ok y.checked.traced.1 x.checked.traced.1

  numbers_one : (k : ℕ) → slice_index other.numbers k ≡ slice_index after.numbers k
  numbers_one k = go (dec_lt k n.channels)
    where
      go : Dec (k < n.channels) → slice_index other.numbers k ≡ slice_index after.numbers k
      go (yes h) = sym (same.numbers k h)
      go (no h) = y.checked.numbered.beyond k (omega (arith, h)) ∙ sym (x.checked.numbered.beyond k (omega (arith, h)))

  places_one : (k : ℕ) → slice_index other.places k ≡ slice_index after.places k
  places_one k = go (dec_lt k n.channels)
    where
      go : Dec (k < n.channels) → slice_index other.places k ≡ slice_index after.places k
      go (yes h) = y.places.told k h ∙ ap place_word (sym (same.packets k h)) ∙ sym (x.places.told k h)
      go (no h) = y.places.beyond k (omega (arith, h)) ∙ sym (x.places.beyond k (omega (arith, h)))

module _ (file : List ℕ) where
  -- the network of a file, of which there is one
  conditions : (n : Net) → Takes file n → Conditions n
  conditions n x = subst Conditions (sym x.network) (drawn_conditions x.size x.list x.accepted.size x.accepted.fit)

  takes_one : (n m : Net) → Takes file n → Takes file m → m ≡ n
  takes_one n m x y =
      let same = (one_reading file most).one x.size y.size x.list y.list x.accepted y.accepted in
      y.network ∙ (λ i. drawn (sym same.0 i) (sym same.1 i)) ∙ sym x.network

  module _ (before : Buffers) (work : ℕ) where
    -- a file that is judged is not refused
    judged_or_refused : (v : Verdict) (after : Buffers) (f : StudyFault) → Judged file before work v after → Reason file before work f → ⊥
    judged_or_refused v after f x (refused t r e) = (one_reading file most).never_both x.takes.size x.takes.list t x.takes.accepted r
    judged_or_refused v after f x (short n t b s e) = let z : Some b ≡ None = sym s ∙ ap (λ (m : Net). short_of m before work) (takes_one x.net n x.takes t) ∙ x.rooms_suffice in cc

    reason_one : (f g : StudyFault) → Reason file before work f → Reason file before work g → g ≡ f
    reason_one f g (refused t r e) (refused u q d) = d ∙ ap Table ((one_reading file most).one_fault u t q r) ∙ sym e
    reason_one f g (refused t r e) (short n k b s d) = absurd ((one_reading file most).never_both k.size k.list t k.accepted r)
    reason_one f g (short n k b s e) (refused t r d) = absurd ((one_reading file most).never_both k.size k.list t k.accepted r)
    reason_one f g (short n k b s e) (short m l c q d) =
        let z : Some c ≡ Some b = sym q ∙ ap (λ (i : Net). short_of i before work) (takes_one n m k l) ∙ s in
        let c_b : c ≡ b = cc in
        d ∙ ap Short c_b ∙ sym e

    judged_one : (v w : Verdict) (after other : Buffers) → Judged file before work v after → Judged file before work w other → (w ≡ v) × Same other after
    judged_one v w after other x y =
        let ok = conditions x.net x.takes in
        let found : Found x.net before w other = subst (λ (m : Net). Found m before w other) (takes_one x.net y.net x.takes y.takes) y.found in (
          verdict_one x.net ok before v w after other x.found found,
          record {
            allowed = allowed_one x.net ok before v w after other x.found found;
            numbers = numbers_one x.net ok before v w after other x.found found;
            places = places_one x.net ok before v w after other x.found found;
            fault = λ k. ap (λ (ws : List ℕ). slice_index ws k) (y.fault ∙ sym x.fault);
          },
        )

    told_one : (f g : StudyFault) (after other : Buffers) → g ≡ f → Told before f after → Told before g other → Same other after
    told_one f g after other e x y = record {
      allowed = λ k. ap (λ (ws : List ℕ). slice_index ws k) (y.allowed ∙ sym x.allowed);
      numbers = λ k. ap (λ (ws : List ℕ). slice_index ws k) (y.numbers ∙ sym x.numbers);
      places = λ k. ap (λ (ws : List ℕ). slice_index ws k) (y.places ∙ sym x.places);
      fault = λ k. ap (λ (ws : List ℕ). slice_index ws k) (y.fault ∙ ap (λ (h : StudyFault). with_place (study_parts h) before.fault) e ∙ sym x.fault);
    }

    pub enters : (r : ℕ) (after : Buffers) → Gives file before work r after → Enters file before work r after
    enters r after x = record { gives = x; only = λ q other y. one x q other y }
      where
        one : Gives file before work r after → (q : ℕ) (other : Buffers) → Gives file before work q other → (q ≡ r) × Same other after
        one (judges v j e) q other (judges w k d) = let z = judged_one v w after other j k in (d ∙ ap (λ (u : Verdict). number_told (Ok u)) z.0 ∙ sym e, z.1)
        one (judges v j e) q other (refuses g k t d) = absurd (judged_or_refused v after g j k)
        one (refuses f j t e) q other (judges w k d) = absurd (judged_or_refused w other f k j)
        one (refuses f j t e) q other (refuses g k u d) = let z = reason_one f g j k in (d ∙ ap (λ (h : StudyFault). number_told (Err h)) z ∙ sym e, told_one f g after other z t u)

    pub starved : (r : ℕ) (after : Buffers) → Starves file before r after → Starved file before r after
    starved r after x = record { starves = x; only = λ q other y. (y.number ∙ sym x.number, told_one (Table NoMemory) (Table NoMemory) after other refl x.told y.told) }

    -- a fault that memory does not bear on is told
    fault_told : (r : ℕ) (after : Buffers) → Entered file before work r after → (t : TableFault) → Refused file most t → (Wanting file NoMemory → ⊥) → r ≡ number_told (Err (Table t))
    fault_told r after (inl x) t bad spared = go x.gives
      where
        go : Gives file before work r after → r ≡ number_told (Err (Table t))
        go (judges v j e) = absurd ((one_reading file most).never_both j.takes.size j.takes.list t j.takes.accepted bad)
        go (refuses f j told e) = e ∙ ap (λ (h : StudyFault). number_told (Err h)) (reason_one (Table t) f (refused t bad refl) j)
    fault_told r after (inr x) t bad spared = absurd (spared x.starves.wanting)

    pub first_told : (r : ℕ) (after : Buffers) → Entered file before work r after → FirstTold file r
    first_told r after x =
        record {
          empty = λ e. fault_told r after x (Text NoSize) (empty e refl) (λ w. no_line e w.lines);
          line = λ l ls t e y. fault_told r after x t (first l ls e y) (λ w. first_later w.size t e w.lines w.says w.fits y);
        }
