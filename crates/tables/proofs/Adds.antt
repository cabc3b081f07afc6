-- Adding a record to a table.
use Rattle.std.proofs.Common.{◌≡◌, ℕ, ◌+◌, ◌*◌, ◌<◌, ◌≤◌, length, get_or, set, vec_items, vec_len, sym, refl, ap, ◌∙◌, subst, arith}
use Rattle.std.proofs.lemmas.List.{get_or_read_under}
use Rattle.records.specs.declared.Record.{Record}
use Rattle.records.specs.declared.Record.TheVariants.{Entry, Home, Way}
use Rattle.networks.specs.declared.faults.TableFault.TheVariants.{OutOfRange}
use Rattle.tables.specs.declared.cell.Cell.{Cell}
use Rattle.tables.specs.declared.table.Table.{Table}
use Rattle.tables.specs.Cells.{blank, cell_of, net_of, as_entry, as_home, with_way}
use Rattle.networks.specs.declared.pairs.Pair.{Pair}
use Rattle.tables.specs.Drawn.{pair_of, adding}
use Rattle.tables.specs.Makes.{Misfit, outside, Takes}
use Rattle.tables.specs.Meaning.{meaning_of}
use Rattle.tables.proofs.Adding.{entry_added, home_added, way_added, ways_here}
use Rattle.tables.proofs.Misfits.{takes_entry, takes_home, takes_way, third_field}

-- The pair of the record lies in the table, and x is its cell.
pub record Located (t : Table) (r : Record) (at : ℕ) (x : Cell) : Type 0 where
  pub channel : (pair_of r).channel < t.size.channels
  pub place : (pair_of r).place < t.size.places
  pub at_is : at ≡ (pair_of r).channel * t.size.places + (pair_of r).place
  pub inside : at < length (vec_items t.cells)
  pub cell_is : x ≡ cell_of t.size.places (vec_items t.cells) (pair_of r).channel (pair_of r).place

located : (t : Table) (r : Record) {at : ℕ} {x : Cell} {p : Pair} → p ≡ pair_of r → (p.channel < t.size.channels) × (p.place < t.size.places) × (at ≡ p.channel * t.size.places + p.place) × (at < vec_len t.cells) → x ≡ get_or (vec_items t.cells) at x → Located t r at x
located t r {at} {x} e l is =
    let m = rw e at l in
    record { channel = m.0; place = m.1; at_is = m.2; inside = omega (arith, m.3, t.cells.ok.0); cell_is = get_or_read_under (vec_items t.cells) at (vec_len t.cells) x blank is m.3 t.cells.ok.0 ∙ ap (λ k. get_or (vec_items t.cells) k blank) m.2 }

-- the record is taken, and the network with the changed cell is the network with the record
abbrev pub Added : Table → Record → ℕ → Cell → Type 0
Added t r at y = Takes (meaning_of t) r × (net_of t.size.channels t.size.places (set (vec_items t.cells) at y) ≡ adding (meaning_of t) r)

module _ (t : Table) (r : Record) (at : ℕ) (x : Cell) (l : Located t r at x) where
  there : (pair_of r).channel * t.size.places + (pair_of r).place < length (vec_items t.cells)
  there = omega (arith, l.inside, l.at_is)

  count_is : length ((meaning_of t).ways (pair_of r).channel (pair_of r).place) ≡ length x.ways
  count_is = ap length (ways_here t.size.channels t.size.places (vec_items t.cells) (pair_of r).channel (pair_of r).place l.channel l.place there ∙ ap (λ z. z.ways) (sym l.cell_is))

  after : (change : Cell → Cell) → net_of t.size.channels t.size.places (set (vec_items t.cells) at (change x)) ≡ net_of t.size.channels t.size.places (set (vec_items t.cells) ((pair_of r).channel * t.size.places + (pair_of r).place) (change (cell_of t.size.places (vec_items t.cells) (pair_of r).channel (pair_of r).place)))
  after change = λ i. net_of t.size.channels t.size.places (set (vec_items t.cells) (l.at_is i) (change (l.cell_is i)))

pub added_entry : (t : Table) (c d at : ℕ) (x : Cell) → Located t (Entry c d) at x → Added t (Entry c d) at (as_entry x)
added_entry t c d at x l = (takes_entry (meaning_of t) c d l.channel l.place, after t (Entry c d) at x l as_entry ∙ entry_added t.size.channels t.size.places (vec_items t.cells) c d l.channel l.place (there t (Entry c d) at x l))

pub added_home : (t : Table) (c d at : ℕ) (x : Cell) → Located t (Home c d) at x → Added t (Home c d) at (as_home x)
added_home t c d at x l = (takes_home (meaning_of t) c d l.channel l.place, after t (Home c d) at x l as_home ∙ home_added t.size.channels t.size.places (vec_items t.cells) c d l.channel l.place (there t (Home c d) at x l))

pub added_way : (t : Table) (c d h at : ℕ) (x : Cell) → Located t (Way c d h) at x → h < t.size.channels → length x.ways < 8 → Added t (Way c d h) at (with_way x h)
added_way t c d h at x l below few =
    let n = count_is t (Way c d h) at x l in
    (takes_way (meaning_of t) c d l.channel l.place h below (omega arith), after t (Way c d h) at x l (λ z. with_way z h) ∙ way_added t.size.channels t.size.places (vec_items t.cells) c d l.channel l.place (there t (Way c d h) at x l) h)

-- what the pair, its place and its cell make of the table
module _ (t : Table) (r : Record) {at : ℕ} {x : Cell} {p : Pair} (of : p ≡ pair_of r) (l : (p.channel < t.size.channels) × (p.place < t.size.places) × (at ≡ p.channel * t.size.places + p.place) × (at < vec_len t.cells)) (is : x ≡ get_or (vec_items t.cells) at x) where
  here : {q : Record} → r ≡ q → Located t q at x
  here e = subst (λ (q : Record). Located t q at x) e (located t r of l is)

  pub entry_joins : {c d : ℕ} → r ≡ Entry c d → Added t r at (as_entry x)
  entry_joins {c} {d} e = rw e (added_entry t c d at x (here e))

  pub home_joins : {c d : ℕ} → r ≡ Home c d → Added t r at (as_home x)
  home_joins {c} {d} e = rw e (added_home t c d at x (here e))

  pub way_joins : {c d h : ℕ} → r ≡ Way c d h → h < t.size.channels → length x.ways < 8 → Added t r at (with_way x h)
  way_joins {c} {d} {h} e below few = rw e (added_way t c d h at x (here e) below few)

pub refused_way : (t : Table) (line : ℕ) {c d h : ℕ} {r : Record} {p : Pair} → p ≡ pair_of r → r ≡ Way c d h → p.channel < t.size.channels → p.place < t.size.places → t.size.channels ≤ h → Misfit (meaning_of t) line r (OutOfRange line 4)
refused_way t line {c} {d} {h} {r} {p} e is a b past =
    let same : p ≡ pair_of (Way c d h) = e ∙ ap pair_of is in
    let a' = rw same at a in
    let b' = rw same at b in
    rw is (outside 4 (third_field (meaning_of t) c d a' b' h past) refl)
