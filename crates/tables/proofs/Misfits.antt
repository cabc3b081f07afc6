-- Records that a network takes, and the faults of those that it does not.
use Rattle.std.proofs.Common.{◌≡◌, ℕ, ◌<◌, ◌≤◌, ◌⊎◌, length, refl, inl, inr, arith, below_none, below_more}
use Rattle.records.specs.declared.Record.{Record}
use Rattle.records.specs.declared.Record.TheVariants.{Entry, Home, Way}
use Rattle.networks.specs.declared.faults.TableFault.{TableFault}
use Rattle.networks.specs.declared.faults.TableFault.TheVariants.{OutOfRange}
use Rattle.networks.specs.Nets.{Net}
use Rattle.tables.specs.Drawn.{pair_of}
use Rattle.tables.specs.Makes.{Below, Within, FirstOutside, Misfit, outside, Takes}

-- what holds of each number below one, two and three
module _ (P : ℕ → Type 0) (zeroth : P 0) where
  below_one : (k : ℕ) → k < 1 → P k
  below_one = below_more P 0 (below_none P) zeroth

  below_two : P 1 → (k : ℕ) → k < 2 → P k
  below_two first = below_more P 1 below_one first

  below_three : P 1 → P 2 → (k : ℕ) → k < 3 → P k
  below_three first second = below_more P 2 (below_two first) second

-- how locating a record's pair fails
abbrev pub Misplaced : Net → ℕ → ℕ → ℕ → TableFault → Type 0
Misplaced n line c d f = ((f ≡ OutOfRange line 2) × (n.channels ≤ c)) ⊎ ((f ≡ OutOfRange line 3) × (c < n.channels) × (n.places ≤ d))

first_field : (n : Net) (r : Record) → n.channels ≤ (pair_of r).channel → FirstOutside n r 2
first_field n (Entry a b) h = record { at = 0; field = refl; there = omega arith; outside = λ l. omega arith; before = λ k l. absurd (omega arith) }
first_field n (Home a b) h = record { at = 0; field = refl; there = omega arith; outside = λ l. omega arith; before = λ k l. absurd (omega arith) }
first_field n (Way a b e) h = record { at = 0; field = refl; there = omega arith; outside = λ l. omega arith; before = λ k l. absurd (omega arith) }

second_field : (n : Net) (r : Record) → (pair_of r).channel < n.channels → n.places ≤ (pair_of r).place → FirstOutside n r 3
second_field n (Entry a b) h g = record { at = 1; field = refl; there = omega arith; outside = λ l. omega arith; before = below_one (Below n (Entry a b)) h }
second_field n (Home a b) h g = record { at = 1; field = refl; there = omega arith; outside = λ l. omega arith; before = below_one (Below n (Home a b)) h }
second_field n (Way a b e) h g = record { at = 1; field = refl; there = omega arith; outside = λ l. omega arith; before = below_one (Below n (Way a b e)) h }

pub misplaced : (n : Net) (line : ℕ) (r : Record) (f : TableFault) → Misplaced n line (pair_of r).channel (pair_of r).place f → Misfit n line r f
misplaced n line r f (inl x) = outside 2 (first_field n r x.1) x.0
misplaced n line r f (inr x) = outside 3 (second_field n r x.1 x.2) x.0

module _ (n : Net) (c d : ℕ) where
  module _ (in-channels : c < n.channels) (in-places : d < n.places) where
    pub takes_entry : Takes n (Entry c d)
    takes_entry = record { within = below_two (Below n (Entry c d)) in-channels in-places; room = λ x. x }

    pub takes_home : Takes n (Home c d)
    takes_home = record { within = below_two (Below n (Home c d)) in-channels in-places; room = λ x. x }

    pub within_way : (h : ℕ) → h < n.channels → Within n (Way c d h)
    within_way h l = below_three (Below n (Way c d h)) in-channels in-places l

    pub takes_way : (h : ℕ) → h < n.channels → length (n.ways c d) < 8 → Takes n (Way c d h)
    takes_way h l few = record { within = within_way h l; room = λ full. omega arith }

    pub third_field : (h : ℕ) → n.channels ≤ h → FirstOutside n (Way c d h) 4
    third_field h g = record { at = 2; field = refl; there = omega arith; outside = λ l. omega arith; before = below_two (Below n (Way c d h)) in-channels in-places }
