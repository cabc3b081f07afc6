-- The calls of a run in order, one by one: what they do, and what they cost.
use Rattle.std.proofs.Common.{◌≡◌, ℕ, zero, suc, ◌+◌, ◌*◌, ◌<◌, ◌≤◌, true, List, [], ◌∷◌, length, Option, Some, None, Ok, Err, sum_by, refl, arith}
use Rattle.std.specs.List.{range_with_len}
use Rattle.std.proofs.lemmas.List.Sums.{sum_by-cons}
use Rattle.networks.specs.Nets.{Net}
use Rattle.networks.specs.Nets as nets
use Rattle.loads.specs.Loads.{packet, At}
use Rattle.loads.specs.Runs.{Call, Answer, Gives, Step, accepted}
use Rattle.loads.specs.declared.LoadRecord.{LoadRecord}
use Rattle.loads.proofs.Refusals.{same_place}
use Rattle.certificates.specs.Promises.{Emptied, cost, cost_of_load}
use Rattle.certificates.proofs.Costs.{cost_without, cost_moved}
use Rattle.drains.specs.Orders.{FirstSmaller, Next, home, away, InOrder, ends, next}
use Rattle.drains.specs.Emptying.{Advanced, taken, moved}

-- of the ways of a pair one is the first to a smaller number
pub smaller_one : (n : Net) (number : ℕ → ℕ) (c d k h j g : ℕ) → FirstSmaller n number c d k h → FirstSmaller n number c d j g → (k ≡ j) × (h ≡ g)
smaller_one n number c d k h j g x y =
    let below : j < k → ⊥ = λ l. let z = x.none_before j g l y.way in omega (arith, z, y.smaller) in
    let above : k < j → ⊥ = λ l. let z = y.none_before k h l x.way in omega (arith, z, x.smaller) in
    let same : k ≡ j = omega (arith, below, above) in
    (same, cc (same, x.way.1, y.way.1))

-- The call that comes next takes a packet, or moves it.
pub next_advances : (n : Net) (number : ℕ → ℕ) (l m : List LoadRecord) (call : Call) → Next n number l call → (a : Answer call) → accepted call a ≡ true → Gives n l call a m → (c d e : ℕ) × Advanced n number l c d e m
next_advances n number l m _ (home c d first here) (Ok x) ok gives = (c, x, c, taken gives.0 refl gives.1)
next_advances n number l m _ (home c d first here) (Err f) ok gives = absurd (cc)
next_advances n number l m _ (away c d k h first far smaller) (Ok x) ok gives =
    let may = gives.2 in
    let same : gives.0 ≡ d = same_place n l c d gives.0 first.stands may.stands in
    let there : gives.1 ≡ h = cc (same, may.way.1, smaller.way.1) in
    (c, gives.0, gives.1, moved k may (rw (same, there) smaller) gives.3)
next_advances n number l m _ (away c d k h first far smaller) (Err f) ok gives = absurd (cc)

-- a sum of numbers that are at most b
sum_most : (f : ℕ → ℕ) (b a k : ℕ) → ((c : ℕ) → a ≤ c → c < a + k → f c ≤ b) → sum_by f (range_with_len a k) ≤ k * b
sum_most f b a zero most = omega arith
sum_most f b a (suc k) most =
    let rest = sum_most f b (a + 1) k (λ c l m. most c (omega arith) (omega arith)) in
    omega (arith, sum_by-cons f a (range_with_len (a + 1) k), rest, most a (omega arith) (omega arith))

-- what packets cost at most
cost_most : (g : ℕ → ℕ → ℕ) (c b : ℕ) (p : Option ℕ) → ((d : ℕ) → p ≡ Some d → g c d + 1 ≤ b) → cost g c p ≤ b
cost_most g c b None most = omega arith
cost_most g c b (Some d) most = most d refl

pub load_most : (n : Net) (g : ℕ → ℕ → ℕ) (b : ℕ) (l : List LoadRecord) → ((c d : ℕ) → At n l c d → g c d + 1 ≤ b) → cost_of_load g n l ≤ n.channels * b
load_most n g b l most =
    sum_most (λ c. cost g c (packet l c)) b 0 n.channels (λ c _ m. let i : c < n.channels = omega arith in cost_most g c b (packet l c) (λ d e. most c d (i, e)))

-- an empty load costs nothing
pub load_nothing : (n : Net) (g : ℕ → ℕ → ℕ) (l : List LoadRecord) → Emptied n l → cost_of_load g n l ≡ 0
load_nothing n g l none = let z = load_most n g 0 l (λ c d at. absurd (none c (d, at))) in omega (arith, z)

module _ (n : Net) (ok : nets.Conditions n) (number : ℕ → ℕ) where
  -- each call lowers the sum of the packets' numbers
  pub advance_lowers : (l m : List LoadRecord) (c d e : ℕ) → Advanced n number l c d e m → cost_of_load (λ c d. number c) n m + 1 ≤ cost_of_load (λ c d. number c) n l
  advance_lowers l m c d e (taken may here same) =
      rw same (omega (arith, cost_without n (λ c d. number c) l c d may.records may.stands))
  advance_lowers l m c d e (moved k may smaller same) =
      rw same (omega (arith, smaller.smaller, cost_moved n (λ c d. number c) ok l c k d e may))

  pub order_lowers : (l m : List LoadRecord) (ss : List Step) → InOrder n number l ss m → length ss + cost_of_load (λ c d. number c) n m ≤ cost_of_load (λ c d. number c) n l
  order_lowers l m [] ends = omega arith
  order_lowers l m (s ∷ ss) (next {m = o} comes fine gives rest) =
      let x = next_advances n number l o s.call comes s.answer fine gives in
      omega (arith, advance_lowers l o x.0 x.1 x.2 x.3, order_lowers o m ss rest)
