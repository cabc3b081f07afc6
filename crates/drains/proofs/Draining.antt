-- What draining gives.
use Rattle.std.proofs.Common.{ℕ, ◌<◌, ◌≤◌, List, length, slice_index, ◌∙◌, arith}
use Rattle.networks.specs.Allowed.{said}
use Rattle.networks.specs.Nets.{Net, Conditions}
use Rattle.numbering.specs.Outcomes.{Outcome}
use Rattle.numbering.specs.declared.Numbering.{Numbering}
use Rattle.numbering.proofs.Counts.{none_held, some_held}
use Rattle.tracing.specs.Traces.{Traced}
use Rattle.escapes.specs.Escaping.{escape, escape_conditions}
use Rattle.loads.specs.Loads.{AllowedLoad}
use Rattle.loads.specs.declared.LoadRecord.{LoadRecord}
use Rattle.checks.specs.Checks.{Judged}
use Rattle.checks.specs.declared.outcome.Verdict.TheVariants as verdicts
use Rattle.checks.proofs.OurLoad.{held_has}
use Rattle.certificates.specs.Promises.{Emptied}
use Rattle.certificates.proofs.Sides.{sound_free}
use Rattle.drains.specs.Drains.{Drained, Filled}
use Rattle.drains.specs.Emptying.{Lowering, Called}
use Rattle.drains.proofs.Advancing.{first_again}
use Rattle.drains.proofs.Homeward.{comes_one, home_lowers, moves_home, comes_home, order_total}
use Rattle.drains.proofs.Single.{one_order}
use Rattle.drains.proofs.Steps.{order_lowers}
use Rattle.drains.proofs.Walking.{order_runs}

-- An allowed load that calls in order have emptied is drained.
pub drained : {n : Net} (ok : Conditions n) {numbers : List ℕ} {l m : List LoadRecord} {answer : ℕ} → Lowering n numbers → AllowedLoad n l → Called n (slice_index numbers) l m answer → Emptied n m → Drained n (slice_index numbers) l m answer
drained {n} ok {numbers} {l} {m} {answer} low allowed called none =
    let number : ℕ → ℕ = slice_index numbers in
    let total = order_total n ok number (moves_home n number low.sound) (comes_home n number low.sound) l m called.steps allowed called.order none in
    let bound = order_lowers n ok number l m called.steps called.order in
    record {
      steps = called.steps;
      run = order_runs n number l m called.steps called.order;
      order = called.order;
      emptied = none;
      again = first_again n ok number;
      only = λ ss o order empty. one_order n ok number l m o called.steps ss called.order none order empty;
      count = called.count;
      moves = moves_home n number low.sound;
      home = comes_home n number low.sound;
      one = λ c d m allowed comes. comes_one n number d c m (moves_home n number low.sound c d) comes (comes_home n number low.sound c d allowed);
      each = λ c d allowed. home_lowers n number d c (moves_home n number low.sound c d) (comes_home n number low.sound c d allowed);
      total = called.count ∙ total;
      bound = omega (arith, called.count, bound);
    }

-- The table, the numbers and the verdict that follows.
module _ {n : Net} {before table numbers numbers' : List ℕ} {ones : ℕ} {a : Numbering} (t : Traced n before table ones) (o : Outcome (escape n (said table)) numbers numbers' a) where
  pub is_free : a.held ≤ 0 → Judged verdicts.Free (escape n (said table)) (slice_index numbers')
  is_free none = none_held numbers' n.channels (omega (arith, o.held))

  pub filled_free : a.held ≤ 0 → Filled n before table numbers numbers' verdicts.Free
  filled_free none = record { traced = (ones, t); numbering = a; numbered = o; judged = is_free none }

  pub filled_blocked : 0 < a.held → Filled n before table numbers numbers' verdicts.Blocked
  filled_blocked some = record { traced = (ones, t); numbering = a; numbered = o; judged = some_held numbers' n.channels (λ e. omega (arith, o.held, e)) }

  pub none_greater : a.held ≤ 0 → (c : ℕ) → c < n.channels → slice_index numbers' c ≤ a.greatest
  none_greater none c inside = o.greatest.none_above c inside (is_free none c inside)

-- The numbers of a free network are a sound numbering of all channels.
pub lowering : {n : Net} (ok : Conditions n) {before table numbers numbers' : List ℕ} {ones : ℕ} {a : Numbering} → Traced n before table ones → Outcome (escape n (said table)) numbers numbers' a → Judged verdicts.Free (escape n (said table)) (slice_index numbers') → n.channels ≤ length numbers' → Lowering n numbers'
lowering {n} ok {table = table} {numbers' = numbers'} t o free long = record { each = long; sound = sound_free ok t o free; below = below }
  where
    below : (c : ℕ) → c < n.channels → slice_index numbers' c < n.channels
    below c inside = o.below c inside (λ held. free c inside (held_has (escape_conditions n (said table) ok) o.all o.below c inside held))
