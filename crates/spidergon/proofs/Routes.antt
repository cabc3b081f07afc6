-- Every route of a Spidergon arrives.
use Rattle.std.proofs.Common.{◌≡◌, ℕ, zero, suc, ◌+◌, ◌*◌, ◌<◌, ◌≤◌, true, false, eqb, ◌⊎◌, List, [], ◌∷◌, length, get_or, sym, refl, ◌∙◌, subst, inl, inr, ⊎_elim, mod-lt, arith}
use Rattle.std.proofs.lemmas.Bool.{le-leb, lt-leb, ne_eqb, cases_lt, cases_eq}
use Rattle.networks.specs.Nets.{Way}
use Rattle.spidergon.specs.Arrival.{HomeWithin, arrived, moves, Route, stays, goes, Arrives}
use Rattle.spidergon.specs.Limits.{leads_below}
use Rattle.spidergon.specs.Rings.{port, leads, relative, step, within, spidergon}
use Rattle.spidergon.proofs.Arriving.{short, more}
use Rattle.spidergon.proofs.Distances.{at_place, next, before, across}

-- where port k of switch h leads
port_leads : (n h k : ℕ) → k < 4 → leads n (4 * h + k) ≡ port n h k
port_leads n h k l = grind arith

-- a pair that there is
record Pair (n c d : ℕ) : Type 0 where
  size : 1 ≤ n
  channel : c < 16 * n
  place : d < 4 * n

-- how far the place lies ahead of the switch to which the channel leads
abbrev far : ℕ → ℕ → ℕ → ℕ
far n c d = relative n (leads n c) d

there : {n c d : ℕ} → Pair n c d → within n c d ≡ true
there p = grind arith

switch : {n c d : ℕ} → Pair n c d → leads n c < 4 * n
switch {n} {c} p = leads_below n c p.size p.channel

far_below : {n c d : ℕ} → Pair n c d → far n c d < 4 * n
far_below p = let size = p.size in mod-lt _ (omega arith)

-- a pair is home where its place lies 0 ahead
arrived_at : {n c d m : ℕ} → Pair n c d → far n c d ≡ 0 → HomeWithin (spidergon n) m c d
arrived_at {n} {c} {d} {m} p z =
    let e = at_place n (leads n c) d (switch p) p.place in
    let t = there p in
    arrived (grind arith)

-- a pair of one way has no other
only : (ways : List ℕ) (w k h : ℕ) → ways ≡ w ∷ [] → k < length ways → h ≡ get_or ways k 0 → w ≡ h
only ways w k h e l g = grind arith

-- elsewhere a packet moves on by the one way
moved : {n c d m : ℕ} → Pair n c d → 0 < far n c d → HomeWithin (spidergon n) m (step n (leads n c) (far n c d)) d → HomeWithin (spidergon n) (suc m) c d
moved {n} {c} {d} {m} p some on =
    let e : eqb (leads n c) d ≡ false = at_place n (leads n c) d (switch p) p.place ∙ ne_eqb _ _ (λ z. omega arith) in
    let ways : (spidergon n).ways c d ≡ step n (leads n c) (far n c d) ∷ [] = rw (there p, e) refl in
    moves
    (rw (there p, e) refl)
    (subst (λ (ws : List ℕ). 0 < length ws) (sym ways) (omega arith))
    (λ h w. subst (λ (x : ℕ). HomeWithin (spidergon n) m x d) (only _ _ w.0 h ways w.1 w.2) on)

-- the pair past a move through port k
past : {n c d : ℕ} (k : ℕ) → Pair n c d → k < 4 → Pair n (4 * leads n c + k) d
past {n} {c} k p l = let s = switch p in record { size = p.size; channel = omega arith; place = p.place }

-- a place at most a quarter of the ring ahead is reached along the ring
forward : (m n c d : ℕ) → Pair n c d → far n c d ≤ n → far n c d ≤ m → HomeWithin (spidergon n) m c d
forward zero n c d p near l = arrived_at p (omega arith)
forward (suc m) n c d p near l =
    ⊎_elim (arrived_at p)
    (λ ne.
    let some : 0 < far n c d = omega arith in
    let e = port_leads n (leads n c) 1 (omega arith) in
    let f : far n (4 * leads n c + 1) d + 1 ≡ far n c d = rw e (next n (leads n c) d (switch p) p.place some) in
    moved p some (rw (le-leb _ _ near) (forward m n (4 * leads n c + 1) d (past 1 p (omega arith)) (omega arith) (omega arith))))
    (cases_eq (far n c d) 0)

-- a place that lies behind by at most m and at most a quarter of the ring
record Behind (n m r : ℕ) : Type 0 where
  quarter : 3 * n ≤ r
  close : 4 * n ≤ r + m

-- such a place is reached back along the ring
backward : (m n c d : ℕ) → Pair n c d → (far n c d ≡ 0) ⊎ Behind n m (far n c d) → HomeWithin (spidergon n) m c d
backward m n c d p (inl z) = arrived_at p z
backward zero n c d p (inr b) = let l = far_below p in absurd (omega arith)
backward (suc m) n c d p (inr b) =
    let size : 1 ≤ n = p.size in
    let some : 0 < far n c d = omega arith in
    let e = port_leads n (leads n c) 2 (omega arith) in
    let f : (far n (4 * leads n c + 2) d ≡ far n c d + 1) ⊎ (far n (4 * leads n c + 2) d ≡ 0) = rw e (before n (leads n c) d (switch p) p.place) in
    let on : (far n (4 * leads n c + 2) d ≡ 0) ⊎ Behind n m (far n (4 * leads n c + 2) d) = ⊎_elim (λ g. inr (record { quarter = omega arith; close = omega arith })) inl f in
    moved p some (rw (lt-leb (far n c d) n (omega arith), le-leb _ _ b.quarter) (backward m n (4 * leads n c + 2) d (past 2 p (omega arith)) on))

-- the place lies more than a quarter of the ring away both ways
record Opposite (n r : ℕ) : Type 0 where
  ahead : n < r
  behind : r < 3 * n

-- it is less than a quarter away from the switch across, which is one move
over : (m c d : ℕ) → Pair (suc m) c d → Opposite (suc m) (far (suc m) c d) → HomeWithin (spidergon (suc m)) (suc m) c d
over m c d p o =
    let n = suc m in
    let some : 0 < far n c d = omega arith in
    let e = port_leads n (leads n c) 3 (omega arith) in
    let q = past 3 p (omega arith) in
    let l = far_below q in
    let f : (far n (4 * leads n c + 3) d ≡ far n c d + 2 * n) ⊎ (far n (4 * leads n c + 3) d + 2 * n ≡ far n c d) = rw e (across n (leads n c) d (switch p) p.place) in
    moved p some
    (rw (lt-leb _ _ o.ahead, lt-leb _ _ o.behind)
    (⊎_elim
    (λ g. backward m n (4 * leads n c + 3) d q (inr (record { quarter = omega arith; close = omega arith })))
    (λ g. forward m n (4 * leads n c + 3) d q (omega arith) (omega arith))
    f))

within_size : (n c d : ℕ) → Pair n c d → HomeWithin (spidergon n) n c d
within_size zero c d p = let size : 1 ≤ 0 = p.size in absurd (omega arith)
within_size (suc m) c d p =
    ⊎_elim
    (λ a.
    ⊎_elim
    (λ b. over m c d p (record { ahead = a; behind = b }))
    (λ b. let l = far_below p in backward (suc m) (suc m) c d p (inr (record { quarter = b; close = omega arith })))
    (cases_lt (far (suc m) c d) (3 * suc m)))
    (λ a. forward (suc m) (suc m) c d p a a)
    (cases_lt (suc m) (far (suc m) c d))

-- an entry is a pair that there is
pub arrives : (n m : ℕ) → 1 ≤ n → n ≤ m → Arrives n m
arrives n m size l c d e = more (spidergon n) (within_size n c d (record { size = size; channel = grind arith; place = grind arith })) m l

-- a route along the ring, as long as the place lies ahead
along : (r n c d : ℕ) → Pair n c d → far n c d ≡ r → r ≤ n → (e : ℕ) × Route (spidergon n) d c r e
along zero n c d p is near = (c, stays)
along (suc r) n c d p is near =
    let some : 0 < far n c d = omega arith in
    let e = port_leads n (leads n c) 1 (omega arith) in
    let f : far n (4 * leads n c + 1) d + 1 ≡ far n c d = rw e (next n (leads n c) d (switch p) p.place some) in
    let on = along r n (4 * leads n c + 1) d (past 1 p (omega arith)) (omega arith) (omega arith) in
    let apart : eqb (leads n c) d ≡ false = at_place n (leads n c) d (switch p) p.place ∙ ne_eqb _ _ (λ z. omega arith) in
    let ways : (spidergon n).ways c d ≡ (4 * leads n c + 1) ∷ [] = rw (there p, apart, le-leb (far n c d) n (omega arith)) refl in
    let w : Way (spidergon n) c d (4 * leads n c + 1) = (0, subst (λ (ws : List ℕ). 0 < length ws) (sym ways) (omega arith), grind arith) in
    (on.0, goes (rw (there p, apart) refl) w on.1)

-- from the local channel of switch 0 it is just that long to the place of switch n
pub no_fewer : (n m : ℕ) → 1 ≤ n → Arrives n m → n ≤ m
no_fewer n m size all =
    let p : Pair n 0 n = record { size = size; channel = omega arith; place = omega arith } in
    let ahead : far n 0 n ≡ n = grind arith in
    let r = along n n 0 n p ahead (omega arith) in
    short (spidergon n) (all 0 n (grind arith)) r.0 n r.1
