-- Distances on a ring of 4 × n switches.
use Rattle.std.proofs.Common.{refl, ◌≡◌, ℕ, ◌+◌, ◌-◌, ◌*◌, ◌%◌, ◌<◌, ◌≤◌, eqb, ◌⊎◌, mod-lt, mod-eq_of_lt, arith}
use native.Mathlib.Nat.{mod-eq-sub-mod}
use Rattle.spidergon.specs.Rings.{relative}

-- what is left of a number below twice m
mod_cases : (x m : ℕ) → x < m + m → ((x < m) × (x % m ≡ x)) ⊎ ((m ≤ x) × (x % m ≡ x - m))
mod_cases x m h = grind (arith, mod-eq_of_lt, mod-eq-sub-mod)

-- the way ahead to a place leads over the start of the ring, or not
ahead : (n h d : ℕ) → h < 4 * n → d < 4 * n → ((d < h) × (relative n h d + h ≡ d + 4 * n)) ⊎ ((h ≤ d) × (relative n h d + h ≡ d))
ahead n h d p q = let e = mod_cases (d + 4 * n - h) (4 * n) (omega arith) in grind arith

-- just the switch's own place lies 0 ahead
pub at_place : (n h d : ℕ) → h < 4 * n → d < 4 * n → eqb h d ≡ eqb (relative n h d) 0
at_place n h d p q = let a = ahead n h d p q in grind arith

-- k switches on, a place lies k less ahead, or the rest of the ring more
turned : (n h k t d : ℕ) → h < 4 * n → d < 4 * n → k < 4 * n → h + k ≡ t → (relative n (t % (4 * n)) d + k ≡ relative n h d) ⊎ (relative n (t % (4 * n)) d + k ≡ relative n h d + 4 * n)
turned n h k t d p q r s =
    let l : t % (4 * n) < 4 * n = mod-lt _ (omega arith) in
    let a = ahead n h d p q in
    let b = ahead n (t % (4 * n)) d l q in
    let e = mod_cases t (4 * n) (omega arith) in
    grind arith

-- from the next switch a place lies one less ahead
pub next : (n h d : ℕ) → h < 4 * n → d < 4 * n → 0 < relative n h d → relative n ((h + 1) % (4 * n)) d + 1 ≡ relative n h d
next n h d p q some =
    let l : relative n ((h + 1) % (4 * n)) d < 4 * n = mod-lt _ (omega arith) in
    let t = turned n h 1 _ d p q (omega arith) refl in
    grind arith

-- from the switch before it lies one more ahead, or it is there
pub before : (n h d : ℕ) → h < 4 * n → d < 4 * n → (relative n ((h + 4 * n - 1) % (4 * n)) d ≡ relative n h d + 1) ⊎ (relative n ((h + 4 * n - 1) % (4 * n)) d ≡ 0)
before n h d p q =
    let l : relative n h d < 4 * n = mod-lt _ (omega arith) in
    let t = turned n h (4 * n - 1) (h + 4 * n - 1) d p q (omega arith) (omega arith) in
    grind arith

-- from the switch across it lies half the ring more ahead, or less
pub across : (n h d : ℕ) → h < 4 * n → d < 4 * n → (relative n ((h + 2 * n) % (4 * n)) d ≡ relative n h d + 2 * n) ⊎ (relative n ((h + 2 * n) % (4 * n)) d + 2 * n ≡ relative n h d)
across n h d p q = let t = turned n h (2 * n) _ d p q (omega arith) refl in grind arith
