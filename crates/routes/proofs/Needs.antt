-- The needs and ways of pairs in their release system.
use Rattle.std.proofs.Common.{◌≡◌, ℕ, ◌+◌, ◌<◌, true, false, Bool, not, eqb, ltb, List, length, map, take, drop, max, get_or, refl, sym, ◌∙◌, inl, inr, arith}
use Rattle.std.proofs.lemmas.Bool.{ltb-true, lt-ltb, and_parts}
use Rattle.std.proofs.lemmas.Bool.Decides.{nat_tests}
use Rattle.std.proofs.lemmas.List.{length-map, length-take, length-drop, get_or-map, get_or-take, get_or-drop}
use Rattle.networks.specs.Allowed.{Allowed, position, listed, must_move, said}
use Rattle.networks.specs.Nets.{Net, Inside, Conditions}
use Rattle.numbering.specs.Systems as systems
use Rattle.tracing.specs.Traces.{Tells, Traced}
use Rattle.networks.proofs.Inside.{allowed_inside}
use Rattle.tracing.proofs.Positions.{channel_of, place_of}
use Rattle.routes.specs.Routing.{route}

-- one item of a list, if it has that many
only_way : (f : ℕ → ℕ) (ws : List ℕ) (k j : ℕ) → j < length (map f (take 1 (drop k ws))) → (k < length ws) × (get_or (map f (take 1 (drop k ws))) j 0 ≡ f (get_or ws k 0))
only_way f ws k j l =
    let m : j < length (take 1 (drop k ws)) = rw (length-map (take 1 (drop k ws)) f) at l in
    let a = length-take 1 (drop k ws) in
    let b = length-drop k ws in
    let one : j < 1 = omega arith in
    let e : k + j ≡ k = omega arith in
    (omega arith, rw (get_or-map f (take 1 (drop k ws)) j 0 0 m, get_or-take 1 (drop k ws) j 0 one, get_or-drop k ws j 0, e) refl)

some_way : (f : ℕ → ℕ) (ws : List ℕ) (k : ℕ) → k < length ws → 0 < length (map f (take 1 (drop k ws)))
some_way f ws k l = omega (arith, length-map (take 1 (drop k ws)) f, length-take 1 (drop k ws), length-drop k ws)

-- A packet can come to be in the channel and then has to move on.
pub record Away (n : Net) (c d : ℕ) : Type 0 where
  pub allowed : Allowed n c d
  pub away : n.home c d ≡ false

is_false : (b : Bool) → not b ≡ true → b ≡ false
is_false b e = grind arith

module _ {n : Net} (ok : Conditions n) {before table : List ℕ} {ones : ℕ} (t : Traced n before table ones) where
  pub moving_inside : {c d : ℕ} → must_move n (said table) c d ≡ true → Inside n c d
  moving_inside {c} {d} e =
      let x = and_parts (listed n (said table) c d) (not (n.home c d)) e in
      let y = and_parts (ltb c n.channels) _ x.0 in
      let z = and_parts (ltb d n.places) _ y.1 in
      record { channel = ltb-true c n.channels y.0; place = ltb-true d n.places z.0 }

  pub moving_away : {c d : ℕ} → must_move n (said table) c d ≡ true → Away n c d
  moving_away {c} {d} e =
      let x = and_parts (listed n (said table) c d) (not (n.home c d)) e in
      let y = and_parts (ltb c n.channels) _ x.0 in
      let z = and_parts (ltb d n.places) _ y.1 in
      let i = moving_inside e in
      record { allowed = tells (t.bytes c d i.channel i.place) z.1; away = is_false _ x.1 }
    where
      tells : Tells (Allowed n c d) (get_or table (position n c d) 0) → eqb (get_or table (position n c d) 0) 1 ≡ true → Allowed n c d
      tells (inl p) b = p.0
      tells (inr p) b = absurd (grind (arith, nat_tests))

  pub away_moving : {c d : ℕ} → Away n c d → must_move n (said table) c d ≡ true
  away_moving {c} {d} a =
      let i = allowed_inside n ok a.allowed in
      tells (t.bytes c d i.channel i.place) (lt-ltb _ _ i.channel) (lt-ltb _ _ i.place)
    where
      tells : Tells (Allowed n c d) (get_or table (position n c d) 0) → ltb c n.channels ≡ true → ltb d n.places ≡ true → must_move n (said table) c d ≡ true
      tells (inl p) x y = rw (x, y, p.1, a.away) refl
      tells (inr p) x y = absurd (p.0 a.allowed)

  -- the slots of a pair
  module _ (c : ℕ) {d : ℕ} (inside : d < n.places) where
    pub need_away : {k : ℕ} → (route n (said table)).need (position n c d) k ≡ true → Inside n c d × Away n c d × (k < max 1 (length (n.ways c d)))
    need_away {k} e =
        let f = rw (channel_of n ok c d inside, place_of n ok c d inside) at e in
        let x = and_parts (must_move n (said table) c d) (ltb k (max 1 (length (n.ways c d)))) f in
        (moving_inside x.0, moving_away x.0, ltb-true _ _ x.1)

    pub away_need : {k : ℕ} → Away n c d → k < max 1 (length (n.ways c d)) → (route n (said table)).need (position n c d) k ≡ true
    away_need {k} a l = rw (channel_of n ok c d inside, place_of n ok c d inside, away_moving a, lt-ltb k (max 1 (length (n.ways c d))) l) refl

    pub way_from : {k i : ℕ} → systems.Way (route n (said table)) (position n c d) k i → (k < length (n.ways c d)) × (i ≡ position n (get_or (n.ways c d) k 0) d)
    way_from {k} {i} w =
        let x = rw (channel_of n ok c d inside, place_of n ok c d inside) at w in
        let y = only_way (λ h. position n h d) (n.ways c d) k x.0 x.1 in
        (y.0, x.2 ∙ y.1)

    pub way_to : {k : ℕ} → k < length (n.ways c d) → systems.Way (route n (said table)) (position n c d) k (position n (get_or (n.ways c d) k 0) d)
    way_to {k} l =
        rw (channel_of n ok c d inside, place_of n ok c d inside)
        (let s = some_way (λ h. position n h d) (n.ways c d) k l in (0, s, sym (only_way (λ h. position n h d) (n.ways c d) k 0 s).1))
