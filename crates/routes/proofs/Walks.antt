-- From a held pair a packet can circle or run dry.
use Rattle.std.proofs.Common.{◌≡◌, ℕ, zero, suc, ◌+◌, ◌-◌, ◌<◌, ◌≤◌, ◌⊎◌, true, Bool, List, [], ◌∷◌, length, max, get_or, refl, sym, ap, subst, inl, inr, arith}
use Rattle.std.proofs.Math.Decide.{ℕ_discrete}
use Rattle.networks.specs.Allowed.{Allowed, position, said}
use Rattle.networks.specs.Nets.{Net, Inside, Conditions}
use Rattle.numbering.specs.Systems as systems
use Rattle.numbering.specs.Numbers.{HeldSet}
use Rattle.tracing.specs.Traces.{Traced}
use Rattle.routes.specs.Routing.{route, Path, stays, moves, Dry, Endless, circles, dry}
use Rattle.routes.proofs.Needs.{Away, need_away, way_to}
use Rattle.routes.proofs.Pigeonhole.{pigeonhole}

-- one move more at the end
longer : {n : Net} {d c k h e : ℕ} → Path n d c k h → Path n d h 1 e → Path n d c (suc k) e
longer stays q = q
longer (moves a away w p) q = moves a away w (longer p q)

-- a packet that can move on stands in an allowed pair
path_allowed : {n : Net} {d c k e : ℕ} → Path n d c (suc k) e → Allowed n c d
path_allowed (moves a away w p) = a

-- and so does one that can circle or run dry
pub endless_allowed : {n : Net} {c d : ℕ} → Endless n c d → Allowed n c d
endless_allowed (circles stays q) = path_allowed q
endless_allowed (circles (moves a away w p) q) = a
endless_allowed (dry stays x) = x.allowed
endless_allowed (dry (moves a away w p) x) = a

pub no_moves : {n : Net} {d c k e : ℕ} → (Allowed n c d → ⊥) → Path n d c k e → k ≡ 0
no_moves out stays = refl
no_moves out (moves a away w p) = absurd (out a)

-- a walk of m moves, seen as the channels that it comes to
module _ {n : Net} {d : ℕ} (f : ℕ → ℕ) (m : ℕ) (step : (k : ℕ) → k < m → Path n d (f k) 1 (f (suc k))) where
  along : (t i j : ℕ) → i + t ≡ j → j ≤ m → Path n d (f i) t (f j)
  along zero i j e l = subst (λ k. Path n d (f i) 0 (f k)) (let same : i ≡ j = omega arith in same) stays
  along (suc t) i j e l =
      let last : suc (i + t) ≡ j = omega arith in
      subst (λ k. Path n d (f i) (suc t) (f k)) last (longer (along t i (i + t) refl (omega arith)) (step (i + t) (omega arith)))

  -- a walk that comes to a channel again circles
  pub returns : (i j : ℕ) → i < j → j ≤ m → f i ≡ f j → Endless n (f 0) d
  returns i j l k e =
      circles (along i 0 i (omega arith) (omega arith)) (subst (λ h. Path n d (f i) (suc (j - suc i)) h) (sym e) (along (suc (j - suc i)) i j (omega arith) k))

module _ {n : Net} (ok : Conditions n) {before table : List ℕ} {ones : ℕ} (t : Traced n before table ones) (set : ℕ → Bool) (held : HeldSet (route n (said table)) set) (d : ℕ) (place : d < n.places) where
  -- a channel whose pair lies in the held set
  record Member : Type 0 where
    channel : ℕ
    member : set (position n channel d) ≡ true

  abbrev Next : Member → Type 0
  Next x = Dry n x.channel d ⊎ ((y : Member) × Path n d x.channel 1 y.channel)

  -- its pair is dry, or a move leads to another such channel
  step : (x : Member) → Inside n x.channel d × Next x
  step x = (a.0, go (n.ways x.channel d) refl)
    where
      h : (j : ℕ) × ((route n (said table)).need (position n x.channel d) j ≡ true) × ((i : ℕ) → systems.Way (route n (said table)) (position n x.channel d) j i → set i ≡ true)
      h = held (position n x.channel d) x.member

      a : Inside n x.channel d × Away n x.channel d × (h.0 < max 1 (length (n.ways x.channel d)))
      a = need_away ok t x.channel place h.1

      go : (ways : List ℕ) → n.ways x.channel d ≡ ways → Next x
      go [] e = inl (record { allowed = a.1.allowed; away = a.1.away; no_ways = e })
      go (w ∷ ws) e =
          let l : h.0 < length (n.ways x.channel d) = omega (arith, a.2, ap length e) in
          inr (record { channel = get_or (n.ways x.channel d) h.0 0; member = h.2 _ (way_to ok t x.channel place l) }, moves a.1.allowed a.1.away (h.0, l, refl) stays)

  chosen : (x : Member) → Next x → Member
  chosen x (inl _) = x
  chosen x (inr y) = y.0

  walk : Member → ℕ → Member
  walk x zero = x
  walk x (suc k) = chosen (walk x k) (step (walk x k)).1

  abbrev channels : Member → ℕ → ℕ
  channels x k = (walk x k).channel

  abbrev Moving : Member → ℕ → Type 0
  Moving x k = Path n d (channels x k) 1 (channels x (suc k))

  follow : (x : Member) (s : Next x) → Dry n x.channel d ⊎ Path n d x.channel 1 (chosen x s).channel
  unfolding chosen
  follow x (inl y) = inl y
  follow x (inr y) = inr y.1

  -- the walk runs dry, or it goes on for so many moves
  goes_on : (x : Member) (m : ℕ) → Endless n x.channel d ⊎ ((k : ℕ) → k < m → Moving x k)
  unfolding walk
  goes_on x zero = inr (λ k l. absurd (omega arith))
  goes_on x (suc m) = go (goes_on x m) (follow (walk x m) (step (walk x m)).1)
    where
      go : Endless n x.channel d ⊎ ((k : ℕ) → k < m → Moving x k) → Dry n (channels x m) d ⊎ Moving x m → Endless n x.channel d ⊎ ((k : ℕ) → k < suc m → Moving x k)
      go (inl e) y = inl e
      go (inr s) (inl y) = inl (dry (along (channels x) m s m 0 m (omega arith) (omega arith)) y)
      go (inr s) (inr y) = inr (λ k l. last k l (ℕ_discrete k m))
        where
          last : (k : ℕ) → k < suc m → Dec (k ≡ m) → Moving x k
          last k l (yes e) = rw e y
          last k l (no ne) = s k (omega arith)

  endless_from : (x : Member) → Endless n x.channel d
  unfolding walk
  endless_from x = go (goes_on x n.channels)
    where
      go : Endless n x.channel d ⊎ ((k : ℕ) → k < n.channels → Moving x k) → Endless n x.channel d
      go (inl e) = e
      go (inr s) =
          let y = pigeonhole n.channels (channels x) (λ k _. (step (walk x k)).0.channel) in
          returns (channels x) n.channels s y.0 y.1 y.2 y.3 y.4

  pub endless : (c : ℕ) → set (position n c d) ≡ true → Endless n c d
  endless c e = endless_from (record { channel = c; member = e })
