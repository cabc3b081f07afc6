-- What a check answers.
use Rattle.std.proofs.Common.{◌≡◌, ℕ, ◌≤◌, if◌then◌else◌, nat_eq, eqb, List, length, take, length-take-le, Some, None, slice_get, slice_index, refl, sym, ◌∙◌, arith}
use Rattle.std.proofs.Math.Nat.{mul-le-mul_left}
use Rattle.std.proofs.lemmas.Bool.{le-ltb, eqb-true, eqb-false, cond_both}
use Rattle.networks.specs.Allowed.{pairs, said}
use Rattle.networks.specs.Nets.{Net, Conditions}
use Rattle.networks.specs.Rooms.{first_short}
use Rattle.networks.specs.declared.faults.Buffer.{Buffer}
use Rattle.numbering.specs.Systems.{System}
use Rattle.numbering.specs.Outcomes.{Outcome, count_held}
use Rattle.numbering.specs.Outcomes as outcomes
use Rattle.numbering.specs.declared.Numbering.{Numbering}
use Rattle.numbering.proofs.Counts.{none_held, some_held}
use Rattle.tracing.specs.Traces.{Traced}
use Rattle.escapes.specs.Escaping.{escape}
use Rattle.checks.specs.Checks.{Ours, Judged, Checked, rooms}
use Rattle.loads.specs.declared.LoadRecord.{LoadRecord}
use Rattle.checks.specs.declared.outcome.Verdict.{Verdict}
use Rattle.checks.specs.declared.outcome.Verdict.TheVariants.{Free, Blocked}
use Rattle.checks.proofs.Blocking.{blocked_exactly, no_other}

judged : (s : System) (numbers : List ℕ) (held : ℕ) → held ≡ count_held s.items numbers → Judged (if nat_eq held 0 then Free else Blocked) s (slice_index numbers)
judged s numbers held e =
    cond_both (eqb held 0) Free Blocked (λ v. Judged v s (slice_index numbers))
    (λ t. none_held numbers s.items (sym e ∙ eqb-true held 0 t))
    (λ f. some_held numbers s.items (λ z. eqb-false held 0 f (e ∙ z)))

-- The buffers suffice for the check, and so do they for the numbering.
pub rooms_suffice : (n : Net) (allowed numbers : List ℕ) (load : List LoadRecord) (work : ℕ) → pairs n ≤ length allowed → n.channels ≤ length numbers → n.channels ≤ length load → pairs n ≤ work → first_short (rooms n allowed numbers load work) ≡ None
rooms_suffice n allowed numbers load work a b c d =
    rw (le-ltb (length allowed) (pairs n) a, le-ltb (length numbers) n.channels b, le-ltb (length load) n.channels c, le-ltb work (pairs n) d) refl

pub items_suffice : (n : Net) (ok : Conditions n) (table : List ℕ) (numbers work : ℕ) → n.channels ≤ numbers → pairs n ≤ work → first_short (outcomes.rooms (escape n (said table)) numbers work) ≡ None
items_suffice n ok table numbers work l m =
    let few : n.channels ≤ work = omega (arith, mul-le-mul_left n.channels ok.some_place) in
    rw (le-ltb numbers n.channels l, le-ltb work n.channels few) refl

-- Numbering with as many words of the work area as there are channels does not refuse.
pub words_suffice : (n : Net) (ok : Conditions n) (table : List ℕ) (numbers count : ℕ) (work : List ℕ) (b : Buffer) → n.channels ≤ numbers → count ≡ n.channels → pairs n ≤ length work → first_short (outcomes.rooms (escape n (said table)) numbers (length (take count work))) ≡ Some b → ⊥
words_suffice n ok table numbers count work b l c m e =
    let enough : count ≤ length work = omega (arith, mul-le-mul_left n.channels ok.some_place) in
    let words : n.channels ≤ length (take count work) = omega (arith, length-take-le count work enough) in
    let none : first_short (outcomes.rooms (escape n (said table)) numbers (length (take count work))) ≡ None = rw (le-ltb numbers n.channels l, le-ltb (length (take count work)) n.channels words) refl in
    absurd (cc (none, e))

pub checked : {n : Net} (ok : Conditions n) {allowed allowed' numbers numbers' : List ℕ} {load load' : List LoadRecord} {ones : ℕ} {a : Numbering} → Traced n allowed allowed' ones → Outcome (escape n (said allowed')) numbers numbers' a → Ours (escape n (said allowed')) (slice_index numbers') load' → ((k : ℕ) → n.channels ≤ k → slice_get load' k ≡ slice_get load k) → (v : Verdict) → v ≡ (if nat_eq a.held 0 then Free else Blocked) → Checked n allowed allowed' numbers numbers' load load' (record { verdict = v; numbering = a })
checked {n} ok {allowed} {allowed'} {numbers} {numbers'} {load} {load'} {ones} {a} t o ours beyond v e =
    let j : Judged v (escape n (said allowed')) (slice_index numbers') = rw e (judged (escape n (said allowed')) numbers' a.held o.held) in
    record {
      traced = (ones, t);
      numbered = o;
      verdict = j;
      ours = ours;
      beyond = beyond;
      none_blocked = λ f other b. no_other ok t o.all o.below (rw f at j) other b;
      blocked = blocked_exactly ok t (slice_index numbers') load' ours v j;
    }
