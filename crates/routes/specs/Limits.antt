-- The release system of a network's pairs keeps the limits of release systems.
use Rattle.std.specs.Prelude.{◌≡◌, Bool, ℕ, ◌+◌, ◌-◌, ◌/◌, ◌%◌, ◌<◌, ◌≤◌, true, List, length, take, drop, max, nat_lt, slice_index}
use Rattle.std.proofs.Common.{arith}
use Rattle.std.proofs.lemmas.Nat.{mul-add-lt, mul-le, mod_below, div-add-mod'}
use Rattle.std.proofs.lemmas.Bool.{ltb-true, and_parts, cond-false, le-ltb}
use Rattle.std.proofs.lemmas.List.{length-map, length-take, length-drop, get_or-map, get_or-take, get_or-drop}
use Rattle.networks.specs.Nets.{Net, Conditions}
use Rattle.networks.specs.Allowed.{pairs, position, listed, must_move}
use Rattle.numbering.specs.Systems as systems
use Rattle.routes.specs.Routing.{route}

-- one of the ways at most, and none that a list does not have
few : (ways : List ℕ) (k : ℕ) → (length (take 1 (drop k ways)) ≤ 1) × (length (take 1 (drop k ways)) ≤ length ways - k)
few ways k = let e = length-take 1 (drop k ways) in let f = length-drop k ways in (omega arith, omega arith)

module _ (n : Net) (allowed : ℕ → Bool) (ok : Conditions n) where
  way_inside : (i j k : ℕ) → k < length ((route n allowed).ways i j) → slice_index ((route n allowed).ways i j) k < pairs n
  way_inside i j k l =
      let ws = n.ways (i / n.places) (i % n.places) in
      let f = λ (h : ℕ). position n h (i % n.places) in
      let m : k < length (take 1 (drop j ws)) = rw (length-map (take 1 (drop j ws)) f) at l in
      let x = few ws j in
      let one : k < 1 = omega arith in
      let there : j + k < length ws = omega arith in
      rw (get_or-map f (take 1 (drop j ws)) k 0 0 m, get_or-take 1 (drop j ws) k 0 one, get_or-drop j ws k 0)
      (omega (arith, mul-add-lt (slice_index ws (j + k)) n.places (i % n.places) n.channels (ok.ways_inside (i / n.places) (i % n.places) (j + k) there) (mod_below i n.places (omega (arith, ok.some_place)))))

  item_inside : (i : ℕ) → i / n.places < n.channels → i < pairs n
  item_inside i l =
      omega (arith, div-add-mod' i n.places, mul-add-lt (i / n.places) n.places (i % n.places) n.channels l (mod_below i n.places (omega (arith, ok.some_place))))

  need_inside : (i j : ℕ) → (route n allowed).need i j ≡ true → (i < pairs n) × (j < 8)
  need_inside i j e =
      let ws = n.ways (i / n.places) (i % n.places) in
      let x = and_parts (must_move n allowed (i / n.places) (i % n.places)) (nat_lt j (max 1 (length ws))) e in
      let y = and_parts (listed n allowed (i / n.places) (i % n.places)) _ x.0 in
      let z = and_parts (nat_lt (i / n.places) n.channels) _ y.0 in
      (item_inside i (ltb-true _ _ z.0), omega (arith, ltb-true j (max 1 (length ws)) x.1, ok.few_ways (i / n.places) (i % n.places)))

  pub route_conditions : systems.Conditions (route n allowed)
  route_conditions = record {
    some_item = omega (arith, mul-le 1 1 n.channels n.places ok.some_channel ok.some_place);
    few_items = omega (arith, mul-le n.channels n.places 1024 256 ok.few_channels ok.few_places);
    few_slots = omega arith;
    few_ways = λ i j. let ws = n.ways (i / n.places) (i % n.places) in let x = few ws j in omega (arith, length-map (take 1 (drop j ws)) (λ (h : ℕ). position n h (i % n.places)));
    ways_inside = way_inside;
    need_inside = need_inside;
    label_outside = λ i l. cond-false _ _ _ (le-ltb i (pairs n) l);
  }
