-- In how many moves packets come home by their first ways to smaller numbers.
use Rattle.std.proofs.Common.{◌≡◌, ℕ, zero, suc, ◌+◌, ◌<◌, ◌≤◌, ◌⊎◌, inl, inr, Bool, true, false, List, [], ◌∷◌, length, slice_index, refl, ap, arith}
use native.Mathlib.Decide.{dec_lt, ℕ_discrete}
use Rattle.std.proofs.lemmas.Bool.{both_ways}
use Rattle.networks.specs.Allowed.{Allowed}
use Rattle.networks.specs.Allowed as allowing
use Rattle.networks.specs.Nets.{Net, Way}
use Rattle.networks.specs.Nets as nets
use Rattle.loads.specs.Loads.{AllowedLoad}
use Rattle.loads.specs.Runs.{Step}
use Rattle.loads.specs.declared.LoadRecord.{LoadRecord}
use Rattle.certificates.specs.Promises.{SoundOfAll, Emptied, cost_of_load}
use Rattle.certificates.proofs.Allowing.{allowed_call}
use Rattle.certificates.proofs.Costs.{cost_without, cost_moved}
use Rattle.drains.specs.Orders.{FirstSmaller, ComesHome, home, away, InOrder, ends, next}
use Rattle.drains.specs.Emptying.{Advanced, taken, moved}
use Rattle.drains.proofs.Steps.{smaller_one, next_advances, load_nothing}

-- a packet comes home in one number of moves
pub comes_one : (n : Net) (number : ℕ → ℕ) (d c m o : ℕ) → ComesHome n number d c m → ComesHome n number d c o → m ≡ o
comes_one n number d c m o (home here) (home there) = refl
comes_one n number d c m o (home here) (away far smaller rest) = absurd (both_ways (n.home c d) far here)
comes_one n number d c m o (away far smaller rest) (home there) = absurd (both_ways (n.home c d) far there)
comes_one n number d c m o (away {k = k} {h = h} {moves = x} far smaller rest) (away {k = j} {h = g} {moves = y} far' smaller' rest') =
    let way = smaller_one n number c d k h j g smaller smaller' in
    ap suc (comes_one n number d h x y rest (rw way.1 rest'))

-- and in no more than the number of its channel
pub home_lowers : (n : Net) (number : ℕ → ℕ) (d c m : ℕ) → ComesHome n number d c m → m ≤ number c
home_lowers n number d c m (home here) = omega arith
home_lowers n number d c m (away {h = h} {moves = x} far smaller rest) = omega (arith, home_lowers n number d h x rest, smaller.smaller)

module _ (n : Net) (number : ℕ → ℕ) where
  -- of the ways below a position, the first to a smaller number, or none leads to one
  look_below : (c d bound : ℕ) → bound ≤ length (n.ways c d) → ((k h : ℕ) × FirstSmaller n number c d k h) ⊎ ((j : ℕ) → j < bound → number c ≤ number (slice_index (n.ways c d) j))
  look_below c d zero le = inr (λ j l. absurd (omega arith))
  look_below c d (suc b) le = go (look_below c d b (omega arith)) (dec_lt (number (slice_index (n.ways c d) b)) (number c))
    where
      more : ((j : ℕ) → j < b → number c ≤ number (slice_index (n.ways c d) j)) → number c ≤ number (slice_index (n.ways c d) b) → (j : ℕ) → j < suc b → Dec (j ≡ b) → number c ≤ number (slice_index (n.ways c d) j)
      more before here j l (yes e) = rw e here
      more before here j l (no ne) = before j (omega arith)

      go : ((k h : ℕ) × FirstSmaller n number c d k h) ⊎ ((j : ℕ) → j < b → number c ≤ number (slice_index (n.ways c d) j)) → Dec (number (slice_index (n.ways c d) b) < number c) → ((k h : ℕ) × FirstSmaller n number c d k h) ⊎ ((j : ℕ) → j < suc b → number c ≤ number (slice_index (n.ways c d) j))
      go (inl found) here = inl found
      go (inr before) (yes l) =
          inl (b, slice_index (n.ways c d) b, record { way = (omega arith, refl); smaller = l; none_before = λ j g m w. rw w.1 (before j m) })
      go (inr before) (no ge) = inr (λ j l. more before (omega (arith, ge)) j l (ℕ_discrete j b))

  module _ (sound : SoundOfAll n number) where
    -- From channels with at most the number b, allowed packets come home in so many moves.
    abbrev From : ℕ → Type 0
    From b = (c d : ℕ) → (moves : ℕ) × (Allowed n c d → number c ≤ b → ComesHome n number d c moves)

    from_below : (b : ℕ) → From b
    from_below zero c d = go (n.home c d) refl
      where
        go : (here : Bool) → n.home c d ≡ here → (moves : ℕ) × (Allowed n c d → number c ≤ 0 → ComesHome n number d c moves)
        go true e = (0, λ _ _. home e)
        go false e = (0, λ a le. let w = sound c d a e in absurd (omega (arith, w.2, le)))
    from_below (suc b) c d = go (from_below b) (n.home c d) refl (look_below c d (length (n.ways c d)) (omega arith))
      where
        onward : From b → n.home c d ≡ false → (k h : ℕ) → FirstSmaller n number c d k h → (moves : ℕ) × (Allowed n c d → number c ≤ suc b → ComesHome n number d c moves)
        onward again far k h smaller =
            let rest = again h d in
            (suc rest.0, λ a le. away far smaller (rest.1 (allowing.moves a far (k, smaller.way.0, smaller.way.1)) (omega (arith, smaller.smaller))))

        go : From b → (here : Bool) → n.home c d ≡ here → ((k h : ℕ) × FirstSmaller n number c d k h) ⊎ ((j : ℕ) → j < length (n.ways c d) → number c ≤ number (slice_index (n.ways c d) j)) → (moves : ℕ) × (Allowed n c d → number c ≤ suc b → ComesHome n number d c moves)
        go again true e look = (0, λ _ _. home e)
        go again false e (inl found) = onward again e found.0 found.1 found.2
        go again false e (inr none) =
            (0, λ a le. let w = sound c d a e in let low = none w.1.0 w.1.1 in absurd (omega (arith, w.2, low, ap number w.1.2)))

    -- in how many moves an allowed packet comes home
    pub moves_home : ℕ → ℕ → ℕ
    moves_home c d = (from_below (number c) c d).0

    pub comes_home : (c d : ℕ) → Allowed n c d → ComesHome n number d c (moves_home c d)
    unfolding moves_home
    comes_home c d a = (from_below (number c) c d).1 a (omega arith)

-- What bringing packets home costs: each move and each take lowers the sum by 1.
module _ (n : Net) (ok : nets.Conditions n) (number : ℕ → ℕ) (g : ℕ → ℕ → ℕ) (comes : (c d : ℕ) → Allowed n c d → ComesHome n number d c (g c d)) where
  advance_pays : (l m : List LoadRecord) (c d e : ℕ) → AllowedLoad n l → Advanced n number l c d e m → cost_of_load g n l ≡ 1 + cost_of_load g n m
  advance_pays l m c d e allowed (taken may here same) =
      let none : g c d ≡ 0 = comes_one n number d c (g c d) 0 (comes c d (allowed c d may.stands)) (home may.home) in
      rw same (omega (arith, none, cost_without n g l c d may.records may.stands))
  advance_pays l m c d e allowed (moved k may smaller same) =
      let a = allowed c d may.stands in
      let rest = comes e d (allowing.moves a may.away (k, may.way.0, may.way.1)) in
      let one : g c d ≡ suc (g e d) = comes_one n number d c (g c d) (suc (g e d)) (comes c d a) (away may.away smaller rest) in
      rw same (omega (arith, one, cost_moved n g ok l c k d e may))

  order_pays : (l m : List LoadRecord) (ss : List Step) → AllowedLoad n l → InOrder n number l ss m → cost_of_load g n l ≡ length ss + cost_of_load g n m
  order_pays l m [] allowed ends = omega arith
  order_pays l m (s ∷ ss) allowed (next {m = o} comes fine gives rest) =
      let x = next_advances n number l o s.call comes s.answer fine gives in
      omega (arith, advance_pays l o x.0 x.1 x.2 allowed x.3, order_pays o m ss (allowed_call n ok l o s.call s.answer allowed gives) rest)

  -- so the calls that empty a load are as many as its packets cost
  pub order_total : (l m : List LoadRecord) (ss : List Step) → AllowedLoad n l → InOrder n number l ss m → Emptied n m → length ss ≡ cost_of_load g n l
  order_total l m ss allowed order none = omega (arith, order_pays l m ss allowed order, load_nothing n g m none)
