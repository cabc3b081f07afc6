-- A packet on its way home, while no other stands in a channel that comes before that in which it stood first.
use Rattle.std.proofs.Common.{◌≡◌, ℕ, ◌+◌, ◌*◌, ◌^◌, ◌<◌, ◌≤◌, ◌⊎◌, inl, inr, List, [], ◌∷◌, ◌++◌, Some, None, Ok, slice_index, refl, length-append, arith}
use Rattle.std.proofs.Math.Nat.{mul-le-mul_left}
use native.Mathlib.Decide.{ℕ_discrete}
use Rattle.networks.specs.Nets.{Net}
use Rattle.networks.specs.Nets as nets
use Rattle.loads.specs.Loads.{packet, At, Holds, AllowedLoad}
use Rattle.loads.specs.Calls.{with_packet, without_packet}
use Rattle.loads.specs.Runs.{MoveOn, Take, Step, Run}
use Rattle.loads.specs.Runs as runs
use Rattle.loads.specs.declared.LoadRecord.{LoadRecord}
use Rattle.loads.proofs.Records.{packet_with_other, packet_without_same, packet_without_other, way_inside}
use Rattle.certificates.proofs.Allowing.{allowed_without, allowed_moved}
use Rattle.drains.specs.Orders.{Before, First, home, away, InOrder, ends, next}
use Rattle.drains.specs.Emptying.{Lowering, Called, Advanced, taken, moved, ClearedBefore, ClearedTo}
use Rattle.drains.proofs.Steps.{load_most, order_lowers}

-- runs in order, one after the other
order_joined : (n : Net) (number : ℕ → ℕ) (l m o : List LoadRecord) (ss ts : List Step) → InOrder n number l ss m → InOrder n number m ts o → InOrder n number l (ss ++ ts) o
order_joined n number l m o [] ts ends order = order
order_joined n number l m o (s ∷ ss) ts (next {m = p} comes fine gives rest) order = next comes fine gives (order_joined n number p m o ss ts rest order)

-- a run in order is a run
pub order_runs : (n : Net) (number : ℕ → ℕ) (l m : List LoadRecord) (ss : List Step) → InOrder n number l ss m → Run n l ss m
order_runs n number l m [] ends = runs.ends
order_runs n number l m (s ∷ ss) (next {m = o} comes fine gives rest) = runs.next gives (order_runs n number o m ss rest)

module _ (n : Net) (number : ℕ → ℕ) where
  pub not_called : (l : List LoadRecord) → Called n number l l 0
  not_called l = record { steps = []; order = ends; count = refl }

  pub called_more : (l m o : List LoadRecord) (a b : ℕ) → Called n number l m a → Called n number m o b → Called n number l o (a + b)
  called_more l m o a b x y = record {
    steps = x.steps ++ y.steps;
    order = order_joined n number l m o x.steps y.steps x.order y.order;
    count = omega (arith, x.count, y.count, length-append x.steps y.steps);
  }

  called_once : (l m : List LoadRecord) (c d e : ℕ) → First n number l c d → Advanced n number l c d e m → Called n number l m 1
  called_once l m c d e first (taken may here same) =
      let s : Step = record { call = Take c; answer = Ok d } in
      record { steps = s ∷ []; order = next (home c d first may.home) refl (may, same) ends; count = refl }
  called_once l m c d e first (moved k may smaller same) =
      let s : Step = record { call = MoveOn c k; answer = Ok tt } in
      record { steps = s ∷ []; order = next (away c d k e first may.away smaller) refl (d, e, may, same) ends; count = refl }

-- The calls are few.
pub few_calls : (n : Net) (ok : nets.Conditions n) (numbers : List ℕ) (l m : List LoadRecord) (calls : ℕ) → Lowering n numbers → Called n (slice_index numbers) l m calls → calls ≤ 2 ^ 20
few_calls n ok numbers l m calls low called =
    let number : ℕ → ℕ = slice_index numbers in
    let lowers = order_lowers n ok number l m called.steps called.order in
    let most = load_most n (λ c d. number c) n.channels l (λ c d at. let z = low.below c at.0 in omega (arith, z)) in
    let square : n.channels * n.channels ≤ n.channels * 1024 = mul-le-mul_left n.channels ok.few_channels in
    omega (arith, called.count, lowers, most, square, ok.few_channels)

-- A packet that stood in channel o when the load was l stands in channel c of the load m, after so many calls, or it was taken there.
pub record Walk (n : Net) (number : ℕ → ℕ) (l m : List LoadRecord) (o c calls : ℕ) : Type 0 where
  pub called : Called n number l m calls
  pub allowed : AllowedLoad n m
  pub inside : c < n.channels
  pub within : Before number c o ⊎ (c ≡ o)
  pub alone : (e : ℕ) → Before number e o ⊎ (e ≡ o) → Holds n m e → e ≡ c

-- what comes before a channel that comes before another one, or is it
before_within : (number : ℕ → ℕ) (e c o : ℕ) → Before number e c → Before number c o ⊎ (c ≡ o) → Before number e o
before_within number e c o (inl x) (inl (inl y)) = inl (omega arith)
before_within number e c o (inl x) (inl (inr y)) = inl (omega (arith, y.0))
before_within number e c o (inr x) (inl (inl y)) = inl (omega (arith, x.0))
before_within number e c o (inr x) (inl (inr y)) = inr (omega (arith, x.0, y.0), omega (arith, x.1, y.1))
before_within number e c o b (inr same) = rw (← same) b

not_before_itself : (number : ℕ → ℕ) (c : ℕ) → Before number c c → ⊥
not_before_itself number c (inl x) = omega arith
not_before_itself number c (inr x) = omega (arith, x.1)

module _ (n : Net) (number : ℕ → ℕ) (l : List LoadRecord) where
  pub walk_starts : (c : ℕ) → c < n.channels → AllowedLoad n l → ClearedBefore n number c l → Walk n number l l c c 0
  walk_starts c inside allowed cleared = record { called = not_called n number l; allowed = allowed; inside = inside; within = inr refl; alone = alone }
    where
      alone : (e : ℕ) → Before number e c ⊎ (e ≡ c) → Holds n l e → e ≡ c
      alone e (inl before) h = absurd (cleared e before h)
      alone e (inr same) h = same

  -- it is the first packet
  pub walk_first : (m : List LoadRecord) (o c d calls : ℕ) → Walk n number l m o c calls → At n m c d → First n number m c d
  walk_first m o c d calls w at = record { stands = at; none_before = none }
    where
      none : (e : ℕ) → Before number e c → Holds n m e → ⊥
      none e before h =
          let same : e ≡ c = w.alone e (inl (before_within number e c o before w.within)) h in
          let itself : Before number c c = rw same at before in
          not_before_itself number c itself

  -- and still is after the call that comes next
  pub walk_more : nets.Conditions n → (m m' : List LoadRecord) (o c d e calls : ℕ) → Walk n number l m o c calls → Advanced n number m c d e m' → Walk n number l m' o e (calls + 1)
  walk_more ok m m' o c d e calls w (taken may here same) = record {
    called = called_more n number l m m' calls 1 w.called (called_once n number m m' c d e (walk_first m o c d calls w may.stands) (taken may here same));
    allowed = rw same (allowed_without n m c w.allowed);
    inside = rw here w.inside;
    within = rw here w.within;
    alone = λ x within h. alone x within (rw same at h) (ℕ_discrete x c);
  }
    where
      alone : (x : ℕ) → Before number x o ⊎ (x ≡ o) → Holds n (without_packet m c) x → Dec (x ≡ c) → x ≡ e
      alone x within h (yes is) = rw here is
      alone x within h (no ne) = rw here (w.alone x within (h.0, (h.1.0, rw (packet_without_other m c x ne) at h.1.1)))
  walk_more ok m m' o c d e calls w (moved k may smaller same) = record {
    called = called_more n number l m m' calls 1 w.called (called_once n number m m' c d e (walk_first m o c d calls w may.stands) (moved k may smaller same));
    allowed = rw same (allowed_moved n ok m c k d e w.allowed may);
    inside = way_inside n ok c d k e may.way;
    within = inl (before_within number e c o (inl smaller.smaller) w.within);
    alone = λ x within h. alone x within (rw same at h) (ℕ_discrete x c) (ℕ_discrete x e);
  }
    where
      alone : (x : ℕ) → Before number x o ⊎ (x ≡ o) → Holds n (without_packet (with_packet m e d) c) x → Dec (x ≡ c) → Dec (x ≡ e) → x ≡ e
      alone x within h _ (yes is) = is
      alone x within h (yes is) (no ne) =
          let there : packet (without_packet (with_packet m e d) c) c ≡ Some h.0 = rw is at h.1.1 in
          absurd (cc (there, packet_without_same (with_packet m e d) c))
      alone x within h (no ne) (no nf) =
          let there : packet m x ≡ Some h.0 = rw (packet_without_other (with_packet m e d) c x ne, packet_with_other m e d x nf) at h.1.1 in
          absurd (ne (w.alone x within (h.0, (h.1.0, there))))

  -- where it was taken, no channel holds a packet up to the first
  pub walk_ends : (m : List LoadRecord) (o c calls : ℕ) → Walk n number l m o c calls → packet m c ≡ None → ClearedTo n number o m
  walk_ends m o c calls w empty e within h =
      let same : e ≡ c = w.alone e within h in
      let there : packet m c ≡ Some h.0 = rw same at h.1.1 in
      cc (empty, there)
