-- A network has one check.
use Rattle.std.proofs.Common.{◌≡◌, ℕ, ◌<◌, ◌≤◌, not, ◌&&◌, nat_lt, List, length, Option, Some, slice_index, refl, sym, ap, ◌∙◌, subst, arith}
use native.Mathlib.Decide.{ℕ_discrete, dec_lt}
use Rattle.std.proofs.lemmas.Bool.{le-ltb}
use Rattle.networks.specs.Allowed.{Allowed, says_allowed, listed, said}
use Rattle.networks.specs.Nets.{Net}
use Rattle.networks.specs.Nets as nets
use Rattle.numbering.specs.Systems.{System, Conditions}
use Rattle.numbering.specs.Numbers.{held_number}
use Rattle.numbering.specs.Outcomes.{Outcome}
use Rattle.numbering.proofs.Secrecy.{same_answer}
use Rattle.tracing.specs.Traces.{Traced}
use Rattle.tracing.proofs.Tables.{tells_one}
use Rattle.escapes.specs.Escaping.{escape, escape_conditions}
use Rattle.loads.specs.Loads.{packet}
use Rattle.checks.specs.Checks.{Shut, LowestShut, OurPacket, Judged, Checked}
use Rattle.loads.specs.declared.LoadRecord.{LoadRecord}
use Rattle.checks.specs.declared.outcome.Check.{Check}
use Rattle.checks.specs.declared.outcome.Verdict.{Verdict}
use Rattle.checks.specs.declared.outcome.Verdict.TheVariants as verdicts

-- tables that tell of each pair whether it is allowed say the same
module _ (n : Net) (before table before' table' : List ℕ) (ones ones' : ℕ) (t : Traced n before table ones) (u : Traced n before' table' ones') where
  listed_same : (c d : ℕ) → listed n (said table) c d ≡ listed n (said table') c d
  listed_same c d = go (dec_lt c n.channels) (dec_lt d n.places)
    where
      go : Dec (c < n.channels) → Dec (d < n.places) → listed n (said table) c d ≡ listed n (said table') c d
      go (yes l) (yes m) = ap (λ (byte : ℕ). nat_lt c n.channels && (nat_lt d n.places && says_allowed byte)) (tells_one (Allowed n c d) _ _ (t.bytes c d l m) (u.bytes c d l m))
      go (yes l) (no m) = rw (le-ltb d n.places (omega (arith, m))) refl
      go (no l) m = rw (le-ltb c n.channels (omega (arith, l))) refl

  pub escape_same : escape n (said table) ≡ escape n (said table')
  escape_same = λ i. record { items = n.channels; slots = n.places; need = λ c d. listed_same c d i && not (n.home c d); ways = n.ways; label = (escape n (said table)).label }

-- one verdict
pub verdict_same : (s : System) (f g : ℕ → ℕ) → ((i : ℕ) → i < s.items → f i ≡ g i) → (v w : Verdict) → Judged v s f → Judged w s g → v ≡ w
verdict_same s f g same verdicts.Free verdicts.Free x y = refl
verdict_same s f g same verdicts.Free verdicts.Blocked x (c, l, e) = absurd (x c l (same c l ∙ e))
verdict_same s f g same verdicts.Blocked verdicts.Free (c, l, e) y = absurd (y c l (sym (same c l) ∙ e))
verdict_same s f g same verdicts.Blocked verdicts.Blocked x y = refl

-- and one packet of our load in each channel
shut_same : (s : System) (f g : ℕ → ℕ) → ((h : ℕ) → h < s.items → f h ≡ g h) → Conditions s → (c d : ℕ) → Shut s f c d → Shut s g c d
shut_same s f g same ok c d x = (x.0, λ h w. sym (same h (rw w.2 (ok.ways_inside c d w.0 w.1))) ∙ x.1 h w)

lowest_one : (s : System) (f : ℕ → ℕ) (c d e : ℕ) → LowestShut s f c d → LowestShut s f c e → d ≡ e
lowest_one s f c d e x y =
    let p : d < e → ⊥ = λ l. y.below d l x.shut in
    let q : e < d → ⊥ = λ l. x.below e l y.shut in
    omega (arith, p, q)

packet_same : (s : System) (f g : ℕ → ℕ) → ((h : ℕ) → h < s.items → f h ≡ g h) → Conditions s → (c : ℕ) → c < s.items → (p q : Option ℕ) → OurPacket s f c p → OurPacket s g c q → p ≡ q
packet_same s f g same ok c l p q x y = go (ℕ_discrete (f c) held_number)
  where
    go : Dec (f c ≡ held_number) → p ≡ q
    go (no ne) = x.free ne ∙ sym (y.free (λ e. ne (same c l ∙ e)))
    go (yes e) =
        let d = x.held e in
        let k = y.held (sym (same c l) ∙ e) in
        let back : LowestShut s f c k.0 = record { shut = shut_same s g f (λ h m. sym (same h m)) ok c k.0 k.2.shut; below = λ j m z. k.2.below j m (shut_same s f g same ok c j z) } in
        d.1 ∙ ap Some (lowest_one s f c d.0 k.0 d.2 back) ∙ sym k.1

-- The same numbers and packets stand in the channels, and the same is answered.
pub record SameCheck (n : Net) (ns ns' : List ℕ) (ls ls' : List LoadRecord) (a a' : Check) : Type 0 where
  pub answers : a ≡ a'
  pub numbers : (c : ℕ) → c < n.channels → slice_index ns c ≡ slice_index ns' c
  pub packets : (c : ℕ) → c < n.channels → packet ls c ≡ packet ls' c

pub one_check : (n : Net) → nets.Conditions n → (b t bn tn b' t' bn' tn' : List ℕ) (bl tl bl' tl' : List LoadRecord) (a a' : Check) → n.channels ≤ length tn → n.channels ≤ length tn' → Checked n b t bn tn bl tl a → Checked n b' t' bn' tn' bl' tl' a' → SameCheck n tn tn' tl tl' a a'
one_check n ok b t bn tn b' t' bn' tn' bl tl bl' tl' a a' long long' x y = record {
  answers = λ i. record { verdict = verdict i; numbering = same_answer x.numbered other long long' i };
  numbers = same;
  packets = λ c l. packet_same s (slice_index tn) (slice_index tn') same oks c l (packet tl c) (packet tl' c) (x.ours c l) (subst (λ (z : System). OurPacket z (slice_index tn') c (packet tl' c)) (sym e) (y.ours c l));
}
  where
    s : System
    s = escape n (said t)

    oks : Conditions s
    oks = escape_conditions n (said t) ok

    e : escape n (said t) ≡ escape n (said t')
    e = escape_same n b t b' t' x.traced.0 y.traced.0 x.traced.1 y.traced.1

    other : Outcome s bn' tn' a'.numbering
    other = subst (λ (z : System). Outcome z bn' tn' a'.numbering) (sym e) y.numbered

    same : (c : ℕ) → c < n.channels → slice_index tn c ≡ slice_index tn' c
    same c l = sym (x.numbered.only (slice_index tn') other.all c l)

    verdict : a.verdict ≡ a'.verdict
    verdict = verdict_same s (slice_index tn) (slice_index tn') same a.verdict a'.verdict x.verdict (subst (λ (z : System). Judged a'.verdict z (slice_index tn')) (sym e) y.verdict)
