-- The positions of pairs inside a network.
use Rattle.std.proofs.Common.{◌≡◌, ℕ, ◌/◌, ◌%◌, ◌<◌, arith}
use Rattle.std.proofs.lemmas.Nat.{div-mul-add, mod-mul-add, mul-add-lt, div_below, mod_below}
use Rattle.networks.specs.Allowed.{Allowed, pairs, position}
use Rattle.networks.specs.Nets.{Net, Conditions}
use Rattle.networks.proofs.Inside.{allowed_inside}

module _ (n : Net) (ok : Conditions n) where
  pub position_below : (c d : ℕ) → c < n.channels → d < n.places → position n c d < pairs n
  position_below c d l m = omega (arith, mul-add-lt c n.places d n.channels l m)

  pub allowed_below : {c d : ℕ} → Allowed n c d → position n c d < pairs n
  allowed_below {c} {d} a = let i = allowed_inside n ok a in position_below c d i.channel i.place

  pub channel_of : (c d : ℕ) → d < n.places → position n c d / n.places ≡ c
  channel_of c d l = div-mul-add c n.places d l

  pub place_of : (c d : ℕ) → d < n.places → position n c d % n.places ≡ d
  place_of c d l = mod-mul-add c n.places d l

  -- the pair at a position
  pub channel_below : (i : ℕ) → i < pairs n → i / n.places < n.channels
  channel_below i l = div_below i n.places n.channels (omega (arith, ok.some_place)) l

  pub place_below : (i : ℕ) → i % n.places < n.places
  place_below i = mod_below i n.places (omega (arith, ok.some_place))
