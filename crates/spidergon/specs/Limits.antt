-- A Spidergon keeps the limits of networks.
use Rattle.std.specs.Prelude.{◌≡◌, ℕ, ◌*◌, ◌/◌, ◌%◌, ◌<◌, ◌≤◌, Bool, true, false, cond, ◌&&◌, List, [], ◌∷◌, length, ◌==◌, nat_lt, slice_index, refl}
use Rattle.std.proofs.Common.{mod-lt, arith, ltb-true}
use Rattle.networks.specs.Nets.{Inside, Conditions}
use Rattle.spidergon.specs.Rings.{port, leads, relative, step, within, spidergon}

port_below : (n s k : ℕ) → 1 ≤ n → s < 4 * n → port n s k < 4 * n
port_below n s k some h =
    let pos : 0 < 4 * n = omega arith in
    grind (arith, mod-lt)

pub leads_below : (n c : ℕ) → 1 ≤ n → c < 16 * n → leads n c < 4 * n
leads_below n c some h = port_below n (c / 4) (c % 4) some (omega arith)

step_below : (n h r : ℕ) → h < 4 * n → step n h r < 16 * n
step_below n h r l = grind arith

-- at most one way, below m
record Fine (m : ℕ) (ways : List ℕ) : Type 0 where
  few : length ways ≤ 1
  below : (k : ℕ) → k < length ways → slice_index ways k < m

-- one way or none where there is such a pair
fine : (m w : ℕ) (x y b : Bool) → (x ≡ true → w < m) → Fine m (cond (x && y) (cond b [] (w ∷ [])) [])
fine m w x y b h = record { few = grind arith; below = λ k l. grind arith }

ways_fine : (n c d : ℕ) → 1 ≤ n → Fine (16 * n) ((spidergon n).ways c d)
ways_fine n c d some =
    fine _ _ (nat_lt c (16 * n)) (nat_lt d (4 * n)) (leads n c == d)
    (λ e. step_below n (leads n c) (relative n (leads n c) d) (leads_below n c some (ltb-true _ _ e)))

apart : (n c d : ℕ) (x y : Bool) → nat_lt c (16 * n) ≡ x → nat_lt d (4 * n) ≡ y → (Inside (spidergon n) c d → ⊥) → (x && y) ≡ false
apart n c d x y p q out = grind arith

nowhere : (b x y : Bool) (ways : List ℕ) → b ≡ false → ((b && x) ≡ false) × ((b && y) ≡ false) × (cond b ways [] ≡ [])
nowhere b x y ways e = grind arith

pub spidergon_conditions : (n : ℕ) → 1 ≤ n → n ≤ 64 → Conditions (spidergon n)
spidergon_conditions n some few =
    record {
      some_channel = omega arith;
      few_channels = omega arith;
      some_place = omega arith;
      few_places = omega arith;
      few_ways = λ c d. let f = (ways_fine n c d some).few in omega arith;
      ways_inside = λ c d. (ways_fine n c d some).below;
      outside = λ c d out. nowhere (within n c d) _ _ _ (apart n c d _ _ refl refl out);
    }
