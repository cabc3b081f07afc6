-- What a check and the routes of one network promise together.
use Rattle.std.proofs.Common.{◌≡◌, ℕ, ◌≤◌, List, length, None, slice_index, refl, arith}
use Rattle.std.proofs.lemmas.Bool.{le-ltb}
use Rattle.networks.specs.Allowed.{pairs}
use Rattle.networks.specs.Nets.{Net, Conditions}
use Rattle.networks.specs.Rooms.{first_short}
use Rattle.loads.specs.Loads.{AllowedLoad, Blocked}
use Rattle.loads.specs.declared.LoadRecord.{LoadRecord}
use Rattle.loads.proofs.Deciding.{one_run}
use Rattle.checks.specs.Checks.{Checked}
use Rattle.checks.specs.declared.outcome.Check.{Check}
use Rattle.checks.specs.declared.outcome.Verdict.{Verdict}
use Rattle.checks.specs.declared.outcome.Verdict.TheVariants as verdicts
use Rattle.routes.specs.Outcomes.{Routed, number_of}
use Rattle.routes.specs.declared.outcome.Routes.{Routes}
use Rattle.certificates.specs.Promises.{CanBeEmptied, Promises}
use Rattle.certificates.specs.Certificates.{Certified, rooms}
use Rattle.certificates.proofs.Allowing.{keeps_allowed, keeps_length}
use Rattle.certificates.proofs.Bounds.{bounded, longest_falls}
use Rattle.certificates.proofs.Composed.{checked_again, routed_from_before}
use Rattle.certificates.proofs.Emptying.{emptied, not_emptied}
use Rattle.certificates.proofs.Progress.{can_progress}
use Rattle.certificates.proofs.Sides.{soundness, sound_lowers, least, greatest}
use Rattle.certificates.proofs.Standing.{stands, waits}

-- The buffers suffice.
pub rooms_suffice : (n : Net) (allowed numbers load longest work : ℕ) → pairs n ≤ allowed → n.channels ≤ numbers → n.channels ≤ load → pairs n ≤ longest → pairs n ≤ work → first_short (rooms n allowed numbers load longest work) ≡ None
rooms_suffice n allowed numbers load longest work a b c d e =
    rw (le-ltb allowed (pairs n) a, le-ltb numbers n.channels b, le-ltb longest (pairs n) d, le-ltb load n.channels c, le-ltb work (pairs n) e) refl

-- the verdict is free if the load that was written can be emptied, since a blocked one cannot
free_if : (n : Net) (v : Verdict) (load : List LoadRecord) → (v ≡ verdicts.Blocked → Blocked n load) → (AllowedLoad n load → CanBeEmptied n load) → v ≡ verdicts.Free
free_if n verdicts.Free load blocked can = refl
free_if n verdicts.Blocked load blocked can = let b = blocked refl in absurd (not_emptied n load b (can b.allowed))

module _ {n : Net} (ok : Conditions n) {before table numbers numbers' : List ℕ} {load load' : List LoadRecord} {longest longest' : List ℕ} {a : Check} {b : Routes} (c : Checked n before table numbers numbers' load load' a) (r : Routed n before table longest longest' b) (long : n.channels ≤ length load') where
  promises : Promises n (slice_index numbers') load' (number_of n longest') a.verdict b.arriving
  promises = record {
    one_run = one_run n ok;
    empties = (
      λ free l records allowed. emptied n ok (slice_index numbers') (sound_lowers ok c free) l records allowed,
      λ all. free_if n a.verdict load' c.blocked.0 (all load' long),
    );
    stands = λ shut l m steps s run. stands n load' (c.blocked.0 shut) l m steps s run;
    least = least ok c;
    greatest = greatest ok c;
    waits = λ other blocked can. waits n other blocked can;
    comes_home = λ free arriving l m steps records allowed run. (
      bounded n ok (number_of n longest') (longest_falls n ok before table longest longest' b r arriving) l m steps records allowed run,
      can_progress n ok (slice_index numbers') (sound_lowers ok c free) m (omega (arith, keeps_length n l m steps run)) (keeps_allowed n ok l m steps allowed run),
    );
  }

  certified : Certified n before table numbers numbers' load load' longest longest' (record { check = a; routes = b })
  certified = record { checked = c; routed = r; soundness = soundness ok c.traced.1; promises = promises }

-- the check first, and then the routes in the same table
pub certified_in_turn : {n : Net} (ok : Conditions n) {before between table numbers numbers' : List ℕ} {load load' : List LoadRecord} {longest longest' : List ℕ} {a : Check} {b : Routes} → Checked n before between numbers numbers' load load' a → Routed n between table longest longest' b → n.channels ≤ length load' → Certified n before table numbers numbers' load load' longest longest' (record { check = a; routes = b })
certified_in_turn ok c r long = certified ok (checked_again c r.traced.1) (routed_from_before c r) long
