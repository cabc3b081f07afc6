-- What is so of a lane, with an exit and without one.
use Rattle.std.proofs.Common.{◌≡◌, ℕ, zero, suc, ◌+◌, ◌-◌, ◌<◌, ◌≤◌, Bool, true, false, ◌&&◌, nat_eq, List, [], ◌∷◌, length, slice_index, refl, arith}
use Rattle.std.proofs.lemmas.Bool.{eqb-true, and_parts}
use Rattle.networks.specs.Allowed.{Allowed, enters, moves}
use Rattle.networks.specs.Nets.{Way}
use Rattle.networks.proofs.Inside.{allowed_inside}
use Rattle.loads.specs.Loads.{nothing, packet_for, At, Holds, AllowedLoad, Blocked}
use Rattle.loads.specs.Calls.{taken}
use Rattle.loads.specs.Runs.{Run, ends, next, progress_made}
use Rattle.loads.specs.declared.LoadRecord.{LoadRecord}
use Rattle.loads.proofs.Refusals.{put_no_entry, put_taken, move_taken, take_empty, take_away}
use Rattle.routes.specs.Routing.{Path, stays, moves as path_moves, Longest, Dry, Endless, circles, dry}
use Rattle.certificates.specs.Lanes.{lane, lane_conditions, ahead, bare, full, crossing, waiting}
use Rattle.certificates.specs.Promises.{SoundOfAll, cost_of_load, cost_of_run}

-- the two pairs of a lane
starts_away : (exit : Bool) → (lane exit).home 0 0 ≡ false
starts_away true = refl
starts_away false = refl

first_allowed : (exit : Bool) → Allowed (lane exit) 0 0
first_allowed exit = enters refl

last_allowed : (exit : Bool) → Allowed (lane exit) 1 0
last_allowed exit = moves (first_allowed exit) (starts_away exit) (0, omega arith, refl)

-- an allowed pair is one of them
pub only_two : (exit : Bool) (c d : ℕ) → Allowed (lane exit) c d → (c < 2) × (d ≡ 0)
only_two exit c d a = let x = allowed_inside (lane exit) (lane_conditions exit) a in (x.channel, omega (arith, x.place))

-- the packets of the full load
full_packet : (exit : Bool) (c d : ℕ) → At (lane exit) full c d → d ≡ 0
full_packet exit zero d at = let x = at.1 in cc
full_packet exit (suc zero) d at = let x = at.1 in cc
full_packet exit (suc (suc c)) d at = absurd (omega (arith, at.0))

pub full_holds : (exit : Bool) (c : ℕ) → c < 2 → Holds (lane exit) full c
full_holds exit zero l = (0, (omega arith, refl))
full_holds exit (suc zero) l = (0, (omega arith, refl))
full_holds exit (suc (suc c)) l = absurd (omega arith)

allowed_channel : (exit : Bool) (c : ℕ) → c < 2 → Allowed (lane exit) c 0
allowed_channel exit zero l = first_allowed exit
allowed_channel exit (suc zero) l = last_allowed exit
allowed_channel exit (suc (suc c)) l = absurd (omega arith)

pub full_at : (exit : Bool) (c d : ℕ) → Allowed (lane exit) c d → At (lane exit) full c d
full_at exit c d a = go c d (only_two exit c d a)
  where
    go : (c d : ℕ) → (c < 2) × (d ≡ 0) → At (lane exit) full c d
    go zero zero x = (x.0, refl)
    go (suc zero) zero x = (x.0, refl)
    go (suc (suc c)) zero x = absurd (omega (arith, x.0))
    go c (suc d) x = absurd (omega (arith, x.1))

pub full_allowed : (exit : Bool) → AllowedLoad (lane exit) full
full_allowed exit c d at = rw (full_packet exit c d at) (allowed_channel exit c at.0)

-- the way leads to the last channel
way_ahead : (exit : Bool) (c d h : ℕ) → Way (lane exit) c d h → (c ≡ 0) × (h ≡ 1)
way_ahead exit c d h w = go (nat_eq c 0 && nat_eq d 0) refl w.0 w.1 w.2
  where
    go : (b : Bool) → nat_eq c 0 && nat_eq d 0 ≡ b → (k : ℕ) → k < length (ahead b) → h ≡ slice_index (ahead b) k → (c ≡ 0) × (h ≡ 1)
    go true e zero l at = (eqb-true c 0 (and_parts (nat_eq c 0) (nat_eq d 0) e).0, at)
    go true e (suc k) l at = absurd (omega arith)
    go false e k l at = absurd (omega arith)

pub full_blocked : Blocked (lane false) full
full_blocked = record {
  allowed = full_allowed false;
  packet = (0, full_holds false 0 (omega arith));
  away = λ c d at. refl;
  full = λ c d h at w. full_holds false h (omega (arith, (way_ahead false c d h w).1));
}

-- The packets of the full load, and one that is put behind them, cross the lane.
abbrev one_taken : List LoadRecord
one_taken = packet_for 0 ∷ (nothing ∷ (packet_for 0 ∷ []))

abbrev one_moved : List LoadRecord
one_moved = nothing ∷ (packet_for 0 ∷ (packet_for 0 ∷ []))

pub crosses : Run (lane true) full crossing bare
crosses =
    next {m = full} (put_no_entry (omega arith) (omega arith) (omega arith) refl, refl)
    (next {m = full} (move_taken (omega arith) (omega arith, refl) refl 1 (omega arith, refl) (0, (omega arith, refl)), refl)
    (next {m = one_taken} (record { records = omega arith; stands = (omega arith, refl); home = refl }, refl)
    (next {m = one_moved} (0, 1, record { records = omega arith; stands = (omega arith, refl); away = refl; way = (omega arith, refl); empty = refl }, refl)
    (next {m = one_moved} (take_empty (omega arith) (omega arith) refl, refl)
    (next {m = full} (record { records = omega arith; entry = refl; empty = refl }, refl)
    (next {m = one_taken} (record { records = omega arith; stands = (omega arith, refl); home = refl }, refl)
    (next {m = one_moved} (0, 1, record { records = omega arith; stands = (omega arith, refl); away = refl; way = (omega arith, refl); empty = refl }, refl)
    (next {m = bare} (record { records = omega arith; stands = (omega arith, refl); home = refl }, refl) ends))))))))

-- Without an exit packets wait.
pub waits : Run (lane false) full waiting full
waits =
    next {m = full} (put_taken (omega arith) (omega arith) (omega arith) refl (taken (0, (omega arith, refl))), refl)
    (next {m = full} (move_taken (omega arith) (omega arith, refl) refl 1 (omega arith, refl) (0, (omega arith, refl)), refl)
    (next (take_away (omega arith) (omega arith, refl) refl, refl) ends))

-- With an exit each move leads from channel 0 to channel 1, so no packet circles, and where it is not home it has a way.
path_falls : {d c k e : ℕ} → Path (lane true) d c k e → k + (1 - e) ≤ 1 - c
path_falls {c = c} stays = omega arith
path_falls {d} {c} (path_moves {h = h} a away w p) = let x = way_ahead true c d h w in let y = path_falls p in omega (arith, x.0, x.1, y)

home_or_way : (c d : ℕ) → Dry (lane true) c d → ⊥
home_or_way c d x = go c d (only_two true c d x.allowed) x.away x.no_ways
  where
    go : (c d : ℕ) → (c < 2) × (d ≡ 0) → (lane true).home c d ≡ false → (lane true).ways c d ≡ [] → ⊥
    go zero zero i away none = cc
    go (suc zero) zero i away none = cc
    go (suc (suc c)) zero i away none = omega (arith, i.0)
    go c (suc d) i away none = omega (arith, i.1)

pub nothing_endless : (c d : ℕ) → Endless (lane true) c d → ⊥
nothing_endless c d (circles p q) = let x = path_falls q in omega (arith, x)
nothing_endless c d (dry {h = h} p x) = home_or_way h d x

-- The longest routes from the two pairs have a move and none.
pub first_longest : (k : ℕ) → Longest (lane true) 0 0 k → k ≡ 1
first_longest k x =
    let above = path_falls x.some.1 in
    let below = x.none_longer 1 1 (path_moves (first_allowed true) refl (0, omega arith, refl) stays) in
    omega (arith, above, below)

pub last_longest : (k : ℕ) → Longest (lane true) 1 0 k → k ≡ 0
last_longest k x = omega (arith, path_falls x.some.1)

-- So the moves and takes of the crossing are as many as its packets cost.
pub costs : (g : ℕ → ℕ → ℕ) → g 0 0 ≡ 1 → g 1 0 ≡ 0 → progress_made crossing ≡ cost_of_load g (lane true) full + cost_of_run g crossing
costs g first last = rw (first, last) refl

-- Without an exit packets run dry in the last channel.
pub last_dry : Endless (lane false) 1 0
last_dry = dry stays (record { allowed = last_allowed false; away = refl; no_ways = refl })

-- With an exit there is a sound numbering.
pub lane_sound : SoundOfAll (lane true) (λ c. 1 - c)
lane_sound c d allowed away = go c d (only_two true c d allowed) away
  where
    go : (c d : ℕ) → (c < 2) × (d ≡ 0) → (lane true).home c d ≡ false → (h : ℕ) × Way (lane true) c d h × (1 - h < 1 - c)
    go zero zero i away = (1, (0, omega arith, refl), omega arith)
    go (suc zero) zero i away = cc
    go (suc (suc c)) zero i away = absurd (omega (arith, i.0))
    go c (suc d) i away = absurd (omega (arith, i.1))
