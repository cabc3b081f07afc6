-- The network of records that fit keeps the limits of networks.
use Rattle.std.proofs.Common.{◌≡◌, ℕ, ◌<◌, Bool, false, ◌&&◌, eqb, List, [], ◌∷◌, refl, arith}
use Rattle.std.proofs.ByRecursion.{All-append, All-weaker, All-get_or}
use Rattle.std.proofs.lemmas.Bool.{cond_both, cond-false}
use Rattle.std.proofs.lemmas.List.Elements.{All-from_recursion}
use Rattle.std.proofs.lemmas.List.Folds.{list_any_none}
use Rattle.std.specs.List.{flat_map, list_any, AllByRecursion}
use Rattle.records.specs.declared.Record.{Record}
use Rattle.records.specs.declared.Record.TheVariants.{Entry, Home, Way}
use Rattle.records.specs.declared.Size.{Size}
use Rattle.networks.specs.Nets.{Net, Inside, Conditions}
use Rattle.tables.specs.Drawn.{drawn, entry_by, home_by, way_by}
use Rattle.tables.specs.Makes.{SizeFits, Within, Fit}
use Rattle.tables.proofs.Pairs.{Same, here, elsewhere, same_pair}

-- a record says nothing of pairs outside
module _ (n : Net) (c d : ℕ) (out : Inside n c d → ⊥) where
  other : (a b : ℕ) → a < n.channels → b < n.places → (eqb a c && eqb b d) ≡ false
  other a b l m = go (same_pair a b c d)
    where
      go : Same a b c d → (eqb a c && eqb b d) ≡ false
      go (here e f) = absurd (out (record { channel = omega arith; place = omega arith }))
      go (elsewhere apart e) = e

  no_entry : (r : Record) → Within n r → entry_by r c d ≡ false
  no_entry (Entry a b) w = other a b (w 0 (omega arith)) (w 1 (omega arith))
  no_entry (Home a b) w = refl
  no_entry (Way a b h) w = refl

  no_home : (r : Record) → Within n r → home_by r c d ≡ false
  no_home (Entry a b) w = refl
  no_home (Home a b) w = other a b (w 0 (omega arith)) (w 1 (omega arith))
  no_home (Way a b h) w = refl

  no_way : (r : Record) → Within n r → way_by r c d ≡ []
  no_way (Entry a b) w = refl
  no_way (Home a b) w = refl
  no_way (Way a b h) w = cond-false _ _ _ (other a b (w 0 (omega arith)) (w 1 (omega arith)))

  none_of : (p : Record → Bool) → ((r : Record) → Within n r → p r ≡ false) → (rs : List Record) → AllByRecursion (Within n) rs → list_any p rs ≡ false
  none_of p h rs w = list_any_none p rs (All-from_recursion (λ r. p r ≡ false) rs (All-weaker (Within n) (λ r. p r ≡ false) h rs w))

  no_ways : (rs : List Record) → AllByRecursion (Within n) rs → flat_map (λ r. way_by r c d) rs ≡ []
  no_ways [] w = refl
  no_ways (r ∷ rs) w = rw (no_way r w.0) (no_ways rs w.1)

-- ways lead to channels that there are
way_below : (n : Net) (c d : ℕ) (r : Record) → Within n r → AllByRecursion (λ h. h < n.channels) (way_by r c d)
way_below n c d (Entry a b) w = tt
way_below n c d (Home a b) w = tt
way_below n c d (Way a b h) w = cond_both (eqb a c && eqb b d) (h ∷ []) [] (AllByRecursion (λ x. x < n.channels)) (λ _. (w 2 (omega arith), tt)) (λ _. tt)

ways_below : (n : Net) (c d : ℕ) (rs : List Record) → AllByRecursion (Within n) rs → AllByRecursion (λ h. h < n.channels) (flat_map (λ r. way_by r c d) rs)
ways_below n c d [] w = tt
ways_below n c d (r ∷ rs) w = All-append (λ h. h < n.channels) (way_by r c d) _ (way_below n c d r w.0) (ways_below n c d rs w.1)

pub drawn_conditions : (s : Size) (rs : List Record) → SizeFits s → Fit s rs → Conditions (drawn s rs)
drawn_conditions s rs size fit =
    record {
      some_channel = size.some_channel;
      few_channels = size.few_channels;
      some_place = size.some_place;
      few_places = size.few_places;
      few_ways = fit.few;
      ways_inside = λ c d k l. All-get_or (λ h. h < s.channels) _ k 0 l (ways_below (drawn s rs) c d rs fit.within);
      outside = λ c d out. (none_of (drawn s rs) c d out (λ r. entry_by r c d) (no_entry (drawn s rs) c d out) rs fit.within, none_of (drawn s rs) c d out (λ r. home_by r c d) (no_home (drawn s rs) c d out) rs fit.within, no_ways (drawn s rs) c d out rs fit.within);
    }
