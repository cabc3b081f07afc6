-- Whether what a source gives keeps the limits of networks.
use Rattle.std.proofs.Common.{◌≡◌, ℕ, ◌≤◌, Bool, true, ◌&&◌, leb, ltb, eqb, List, [], ◌∷◌, length, slice_index, length-append, arith}
use Rattle.std.specs.List.{flat_map, list_all}
use Rattle.std.proofs.lemmas.Bool.{and_parts, leb-true, ltb-true, cond_both}
use Rattle.std.proofs.lemmas.List.Elements.{recursion_from_All, All-weaker}
use Rattle.std.proofs.lemmas.List.Sums.{AllPass-from_list_all}
use Rattle.records.specs.Rendering.{numbers_of}
use Rattle.records.specs.declared.Record.{Record}
use Rattle.records.specs.declared.Record.TheVariants.{Entry, Home, Way}
use Rattle.records.specs.declared.Size.{Size}
use Rattle.networks.specs.Nets.{Conditions, most_channels, most_places, most_ways}
use Rattle.spidergon.specs.Limits.{spidergon_conditions}
use Rattle.tables.specs.Drawn.{drawn, way_by}
use Rattle.tables.specs.Makes.{SizeFits, Within, counts_for}
use Rattle.tables.proofs.Limits.{drawn_conditions}
use Rattle.cases.specs.Cases.{Source, Records, Ring, net_of}
use Rattle.cases.proofs.Ranges.{each_below, each_at}

abbrev size_fits : Size → Bool
size_fits s = (leb 1 s.channels && leb s.channels most_channels) && (leb 1 s.places && leb s.places most_places)

abbrev within : Size → List Record → Record → Bool
within s rs r = each_below (λ k. ltb (slice_index (numbers_of r) k) (slice_index (counts_for (drawn s rs) r) k)) (length (numbers_of r))

-- no pair of records that are few can have many ways
abbrev pub source_fits : Source → Bool
source_fits (Records s rs) = size_fits s && (list_all (within s rs) rs && leb (length rs) most_ways)
source_fits (Ring n) = leb 1 n && leb n 64

sized : (s : Size) → size_fits s ≡ true → SizeFits s
sized s e =
    let x = and_parts (leb 1 s.channels && leb s.channels most_channels) (leb 1 s.places && leb s.places most_places) e in
    let c = and_parts (leb 1 s.channels) (leb s.channels most_channels) x.0 in
    let p = and_parts (leb 1 s.places) (leb s.places most_places) x.1 in
    record { some_channel = leb-true _ _ c.0; few_channels = leb-true _ _ c.1; some_place = leb-true _ _ p.0; few_places = leb-true _ _ p.1 }

is_within : (s : Size) (rs : List Record) (r : Record) → within s rs r ≡ true → Within (drawn s rs) r
is_within s rs r e k l = ltb-true _ _ (each_at (λ k. ltb (slice_index (numbers_of r) k) (slice_index (counts_for (drawn s rs) r) k)) (length (numbers_of r)) e k l)

one_way : (r : Record) (c d : ℕ) → length (way_by r c d) ≤ 1
one_way (Entry a b) c d = omega arith
one_way (Home a b) c d = omega arith
one_way (Way a b h) c d = cond_both (eqb a c && eqb b d) (h ∷ []) [] (λ ws. length ws ≤ 1) (λ _. omega arith) (λ _. omega arith)

few_ways : (rs : List Record) (c d : ℕ) → length (flat_map (λ r. way_by r c d) rs) ≤ length rs
few_ways [] c d = omega arith
few_ways (r ∷ rs) c d = omega (arith, one_way r c d, few_ways rs c d, length-append (way_by r c d) (flat_map (λ r. way_by r c d) rs))

pub conditions : (x : Source) → source_fits x ≡ true → Conditions (net_of x)
conditions (Records s rs) e =
    let x = and_parts (size_fits s) (list_all (within s rs) rs && leb (length rs) most_ways) e in
    let y = and_parts (list_all (within s rs) rs) (leb (length rs) most_ways) x.1 in
    let few : length rs ≤ most_ways = leb-true _ _ y.1 in
    drawn_conditions s rs (sized s x.0) (record {
      within = recursion_from_All (Within (drawn s rs)) rs (All-weaker (λ r. within s rs r ≡ true) (Within (drawn s rs)) (is_within s rs) rs (AllPass-from_list_all (within s rs) rs y.0));
      few = λ c d. omega (arith, few, few_ways rs c d);
    })
conditions (Ring n) e = let x = and_parts (leb 1 n) (leb n 64) e in spidergon_conditions n (leb-true _ _ x.0) (leb-true _ _ x.1)
