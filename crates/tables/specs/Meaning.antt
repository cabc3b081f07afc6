-- The network that a table is, and that it keeps the limits of networks.
use Rattle.std.specs.Prelude.{◌≡◌, ℕ, ◌+◌, ◌*◌, ◌<◌, ◌≤◌, Bool, true, false, ◌&&◌, [], length, vec_items, vec_len, nat_lt, slice_index, refl}
use Rattle.std.proofs.Common.{arith}
use Rattle.std.proofs.lemmas.Nat.{mul-add-lt}
use Rattle.std.proofs.lemmas.Bool.{ltb-true, and_parts, cond_both, cond-false}
use Rattle.networks.specs.Nets.{Net, Inside, Conditions}
use Rattle.tables.specs.Cells.{net_of, inside, cell_of}
use Rattle.tables.specs.declared.table.Table.{Table}

abbrev pub meaning_of : Table → Net
meaning_of t = net_of t.size.channels t.size.places (vec_items t.cells)

at : (t : Table) (c d : ℕ) → inside t.size.channels t.size.places c d ≡ true → c * t.size.places + d < vec_len t.cells
at t c d e =
    let p = and_parts (nat_lt c t.size.channels) (nat_lt d t.size.places) e in
    omega (arith, mul-add-lt c t.size.places d t.size.channels (ltb-true c t.size.channels p.0) (ltb-true d t.size.places p.1), t.whole)

few : (t : Table) (c d : ℕ) → length ((meaning_of t).ways c d) ≤ 8
few t c d =
    cond_both (inside t.size.channels t.size.places c d) (cell_of t.size.places (vec_items t.cells) c d).ways [] (λ ws. length ws ≤ 8)
    (λ e. (t.sound (c * t.size.places + d) (at t c d e)).few)
    (λ e. omega arith)

below : (t : Table) (c d k : ℕ) → k < length ((meaning_of t).ways c d) → slice_index ((meaning_of t).ways c d) k < t.size.channels
below t c d =
    cond_both (inside t.size.channels t.size.places c d) (cell_of t.size.places (vec_items t.cells) c d).ways [] (λ ws. (k : ℕ) → k < length ws → slice_index ws k < t.size.channels)
    (λ e k h. (t.sound (c * t.size.places + d) (at t c d e)).inside k 0 h)
    (λ e k h. absurd (omega arith))

not_inside : (t : Table) (c d : ℕ) (x y : Bool) → nat_lt c t.size.channels ≡ x → nat_lt d t.size.places ≡ y → (Inside (meaning_of t) c d → ⊥) → (x && y) ≡ false
not_inside t c d true true e f out = absurd (out (record { channel = ltb-true _ _ e; place = ltb-true _ _ f }))
not_inside t c d true false e f out = refl
not_inside t c d false y e f out = refl

pub table_conditions : (t : Table) → Conditions (meaning_of t)
table_conditions t =
    record {
      some_channel = t.fits.some_channel;
      few_channels = t.fits.few_channels;
      some_place = t.fits.some_place;
      few_places = t.fits.few_places;
      few_ways = few t;
      ways_inside = below t;
      outside = λ c d out. let e = not_inside t c d _ _ refl refl out in (cond-false _ _ _ e, cond-false _ _ _ e, cond-false _ _ _ e);
    }
