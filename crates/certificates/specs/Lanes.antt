-- A lane: a network with an exit and one without, which show that whatever the promises ask for exists.
use Rattle.std.specs.Prelude.{◌≡◌, ℕ, zero, suc, ◌+◌, ◌-◌, ◌<◌, ◌≤◌, Bool, true, false, ◌&&◌, if◌then◌else◌, List, [], ◌∷◌, length, map, Ok, Err, nat_eq, slice_index}
use Rattle.std.proofs.Common.{refl, arith}
use Rattle.std.proofs.lemmas.Bool.{eqb-true, and_parts}
use Rattle.networks.specs.Nets.{Net, Inside, Conditions}
use Rattle.loads.specs.Loads.{nothing, packet_for, At, AllowedLoad, Blocked}
use Rattle.loads.specs.Runs.{Call, Put, MoveOn, Take, Answer, Step, Run, progress_made}
use Rattle.loads.specs.declared.LoadRecord.{LoadRecord}
use Rattle.loads.specs.declared.faults.LoadFault.TheVariants.{NoEntry, ChannelTaken, ChannelEmpty, NotHome, WayTaken}
use Rattle.checks.specs.declared.outcome.Verdict.TheVariants as verdicts
use Rattle.routes.specs.Outcomes.{number_of}
use Rattle.certificates.specs.Certificates.{Certified}
use Rattle.certificates.specs.Promises.{CanBeEmptied, SoundOfAll, CanProgress, cost_of_load, cost_of_run}
use Rattle.certificates.specs.declared.Certificate.{Certificate}

-- the ways: to channel 1, or none
abbrev pub ahead : Bool → List ℕ
ahead true = 1 ∷ []
ahead false = []

-- Packets for the one place are put into channel 0 and move on to channel 1. There they are home if the lane has an exit.
abbrev pub lane : Bool → Net
lane exit = record {
  channels = 2;
  places = 1;
  entry = λ c d. nat_eq c 0 && nat_eq d 0;
  home = λ c d. exit && (nat_eq c 1 && nat_eq d 0);
  ways = λ c d. ahead (nat_eq c 0 && nat_eq d 0);
}

-- Two loads: no packet stands in a channel, and one stands in each. The record beyond the channels is of none.
abbrev pub bare : List LoadRecord
bare = nothing ∷ (nothing ∷ (packet_for 0 ∷ []))

abbrev pub full : List LoadRecord
full = packet_for 0 ∷ (packet_for 0 ∷ (packet_for 0 ∷ []))

abbrev pub step : (call : Call) → Answer call → Step
step call answer = record { call = call; answer = answer }

-- Both packets of the full load come through, and one that is put behind them. A put, a move and a take are refused.
abbrev pub crossing : List Step
crossing =
    step (Put 1 0) (Err NoEntry) ∷ (step (MoveOn 0 0) (Err WayTaken) ∷ (step (Take 1) (Ok 0) ∷ (step (MoveOn 0 0) (Ok tt) ∷ (step (Take 0) (Err ChannelEmpty)
    ∷ (step (Put 0 0) (Ok tt) ∷ (step (Take 1) (Ok 0) ∷ (step (MoveOn 0 0) (Ok tt) ∷ (step (Take 1) (Ok 0) ∷ []))))))))

-- no packet may be put, move on or be taken
abbrev pub waiting : List Step
waiting = step (Put 0 0) (Err ChannelTaken) ∷ (step (MoveOn 0 0) (Err WayTaken) ∷ (step (Take 1) (Err NotHome) ∷ []))

-- What is so of a lane with an exit: it has a sound numbering, and its full load can be emptied. In the crossing the packets come through. Its moves
-- and takes are as many as the packets cost, and no run in which as much is put has more. Its calls have no other run.
pub record Passing (n : Net) (longest : ℕ → ℕ → ℕ) : Type 0 where
  pub sound : SoundOfAll n (λ c. 1 - c)
  pub emptied : CanBeEmptied n full
  pub crosses : Run n full crossing bare
  pub costs : progress_made crossing ≡ cost_of_load longest n full + cost_of_run longest crossing
  pub most : (steps : List Step) (m : List LoadRecord) → Run n full steps m → cost_of_run longest steps ≡ cost_of_run longest crossing → progress_made steps ≤ progress_made crossing
  pub only : (steps : List Step) (m : List LoadRecord) → map (λ (s : Step). s.call) steps ≡ map (λ (s : Step). s.call) crossing → Run n full steps m → (steps ≡ crossing) × (m ≡ bare)

-- What is so of one without: the full load is blocked, its packets wait, and no move or take would be accepted. Whatever calls are made, they have a
-- run, after which both packets stand.
pub record Jammed (n : Net) : Type 0 where
  pub blocked : Blocked n full
  pub waits : Run n full waiting full
  pub stuck : CanProgress n full → ⊥
  pub stays : (calls : List Call) → (steps : List Step) × (m : List LoadRecord) × (map (λ (s : Step). s.call) steps ≡ calls) × Run n full steps m × ((c : ℕ) → c < 2 → At n m c 0)

-- A certificate of a lane, made in some buffers. With an exit the lane is free and arriving, and without one it is blocked. The full load is
-- allowed in both.
pub record LaneCertified (exit : Bool) (a : Certificate) : Type 0 where
  pub allowed : List ℕ
  pub allowed' : List ℕ
  pub numbers : List ℕ
  pub numbers' : List ℕ
  pub load : List LoadRecord
  pub load' : List LoadRecord
  pub longest : List ℕ
  pub longest' : List ℕ
  pub certified : Certified (lane exit) allowed allowed' numbers numbers' load load' longest longest' a
  pub verdict : a.check.verdict ≡ (if exit then verdicts.Free else verdicts.Blocked)
  pub arriving : a.routes.arriving ≡ exit
  pub load_allowed : AllowedLoad (lane exit) full
  pub passing : exit ≡ true → Passing (lane exit) (number_of (lane exit) longest')
  pub jammed : exit ≡ false → Jammed (lane exit)

-- A lane keeps the limits of networks.
few : (b : Bool) → length (ahead b) ≤ 8
few true = omega arith
few false = omega arith

inside : (b : Bool) (k : ℕ) → k < length (ahead b) → slice_index (ahead b) k < 2
inside true zero l = omega arith
inside true (suc k) l = absurd (omega arith)
inside false k l = absurd (omega arith)

off : (b : Bool) → (b ≡ true → ⊥) → b ≡ false
off true ne = absurd (ne refl)
off false ne = refl

pub lane_conditions : (exit : Bool) → Conditions (lane exit)
lane_conditions exit = record {
  some_channel = omega arith;
  few_channels = omega arith;
  some_place = omega arith;
  few_places = omega arith;
  few_ways = λ c d. few (nat_eq c 0 && nat_eq d 0);
  ways_inside = λ c d k l. inside (nat_eq c 0 && nat_eq d 0) k l;
  outside = λ c d out. (
    first c d out,
    off (exit && (nat_eq c 1 && nat_eq d 0)) (λ t. at c d out 1 (omega arith) (and_parts exit (nat_eq c 1 && nat_eq d 0) t).1),
    rw (first c d out) refl,
  );
}
  where
    at : (c d : ℕ) → (Inside (lane exit) c d → ⊥) → (k : ℕ) → k < 2 → nat_eq c k && nat_eq d 0 ≡ true → ⊥
    at c d out k l t = let x = and_parts (nat_eq c k) (nat_eq d 0) t in out (record { channel = omega (arith, eqb-true c k x.0); place = omega (arith, eqb-true d 0 x.1) })

    first : (c d : ℕ) → (Inside (lane exit) c d → ⊥) → nat_eq c 0 && nat_eq d 0 ≡ false
    first c d out = off (nat_eq c 0 && nat_eq d 0) (at c d out 0 (omega arith))
