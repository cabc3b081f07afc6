-- A pair that is not held has the number of moves of its longest route, and is not endless.
use Rattle.std.proofs.Common.{◌≡◌, ◌≢◌, ℕ, zero, suc, ◌+◌, ◌<◌, ◌≤◌, true, List, length, max, get_or, refl, sym, ap, ◌∙◌, subst, inl, inr, arith}
use Rattle.std.proofs.lemmas.Bool.{both_ways}
use Rattle.networks.specs.Allowed.{position, said}
use Rattle.networks.specs.Nets.{Net, Inside, Conditions}
use Rattle.numbering.specs.Numbers.{Equation, none, greatest, Numbered, AllNumbered, Below, held_number}
use Rattle.tracing.specs.Traces.{Traced}
use Rattle.tracing.proofs.Positions.{position_below}
use Rattle.routes.specs.Limits.{route_conditions}
use Rattle.routes.specs.Routing.{route, Path, stays, moves, Longest, Dry, Endless, circles, dry}
use Rattle.routes.proofs.Needs.{need_away, away_need, way_from}

module _ {n : Net} (ok : Conditions n) {before table : List ℕ} {ones : ℕ} (t : Traced n before table ones) (number : ℕ → ℕ) (all : AllNumbered (route n (said table)) number) (low : Below (route n (said table)) number) (d : ℕ) where
  abbrev at : ℕ → ℕ
  at c = number (position n c d)

  equation : {c : ℕ} → Inside n c d → at c ≢ held_number → Equation (route n (said table)) number (position n c d) × (at c < held_number)
  equation {c} i free = go (all (position n c d) (position_below n ok c d i.channel i.place))
    where
      go : Numbered (route n (said table)) number (position n c d) → Equation (route n (said table)) number (position n c d) × (at c < held_number)
      go (inl x) = (x.1, let few = (route_conditions n (said table) ok).few_items in let z = low (position n c d) (position_below n ok c d i.channel i.place) x.0 in omega (arith, z))
      go (inr x) = absurd (free x.1)

  -- from a pair that is not held, each move leads to another such pair with a smaller number
  record Falls (c m e : ℕ) : Type 0 where
    inside : Inside n e d
    free : at e ≢ held_number
    fallen : m + at e ≤ at c

  falls : {c m e : ℕ} → Path n d c m e → Inside n c d → at c ≢ held_number → Falls c m e
  falls {c} stays i free = record { inside = i; free = free; fallen = omega arith }
  falls {c} {e = e} (moves {h = h} {k = k} a away w p) i free = go (equation i free) (λ i f. falls p i f)
    where
      l : w.0 < max 1 (length (n.ways c d))
      l = omega (arith, w.1)

      need : (route n (said table)).need (position n c d) w.0 ≡ true
      need = away_need ok t c i.place (record { allowed = a; away = away }) l

      next : Inside n h d
      next = record { channel = rw w.2 (ok.ways_inside c d w.0 w.1); place = i.place }

      go : Equation (route n (said table)) number (position n c d) × (at c < held_number) → (Inside n h d → at h ≢ held_number → Falls h k e) → Falls c (suc k) e
      go (none no_need z, below) again = absurd (both_ways _ (no_need w.0) need)
      go (greatest each some, below) again =
          let x = each w.0 need in
          let y = x.1.some in
          let z = way_from ok t c i.place y.1 in
          let there : at h ≡ x.0 = ap (λ g. number (position n g d)) w.2 ∙ ap number (sym z.1) ∙ y.2 in
          let r = again next (omega (arith, x.2)) in
          record { inside = r.inside; free = r.free; fallen = omega (arith, x.2, r.fallen) }

  -- some route has as many
  reached : (bound c : ℕ) → at c < bound → Inside n c d → at c ≢ held_number → (e : ℕ) × Path n d c (at c) e
  reached zero c l i free = absurd (omega arith)
  reached (suc bound) c l i free = go (equation i free) (reached bound)
    where
      go : Equation (route n (said table)) number (position n c d) × (at c < held_number) → ((h : ℕ) → at h < bound → Inside n h d → at h ≢ held_number → (e : ℕ) × Path n d h (at h) e) → (e : ℕ) × Path n d c (at c) e
      go (none no_need e, below) again = (c, subst (λ k. Path n d c k c) (sym e) stays)
      go (greatest each x, below) again =
          let y = x.3.some in
          let z = way_from ok t c i.place y.1 in
          let a = need_away ok t c i.place x.2 in
          let h = get_or (n.ways c d) x.0 0 in
          let there : at h ≡ x.1 = ap number (sym z.1) ∙ y.2 in
          let r = again h (omega (arith, x.4)) (record { channel = ok.ways_inside c d x.0 z.0; place = i.place }) (omega (arith, x.4)) in
          (r.0, subst (λ k. Path n d c k r.0) (ap suc there ∙ x.4) (moves a.1.allowed a.1.away (x.0, z.0, refl) r.1))

  pub longest : (c : ℕ) → Inside n c d → at c ≢ held_number → Longest n c d (at c)
  longest c i free = record {
    some = reached (suc (at c)) c (omega arith) i free;
    none_longer = λ e m p. let f = falls p i free in omega (arith, f.fallen);
  }

  -- a dry pair is held
  not_dry : (c : ℕ) → Inside n c d → at c ≢ held_number → Dry n c d → ⊥
  not_dry c i free x = go (equation i free).0
    where
      need : (route n (said table)).need (position n c d) 0 ≡ true
      need = away_need ok t c i.place (record { allowed = x.allowed; away = x.away }) (omega arith)

      go : Equation (route n (said table)) number (position n c d) → ⊥
      go (none no_need z) = both_ways _ (no_need 0) need
      go (greatest each some) = let y = (each 0 need).1.some in let l = way_from ok t c i.place {k = 0} y.1 in omega (arith, l.0, ap length x.no_ways)

  pub not_endless : (c : ℕ) → Inside n c d → at c ≢ held_number → Endless n c d → ⊥
  not_endless c i free (circles p q) = let f = falls p i free in let g = falls q f.inside f.free in omega (arith, g.fallen)
  not_endless c i free (dry p x) = let f = falls p i free in not_dry _ f.inside f.free x
