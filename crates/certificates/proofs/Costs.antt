-- What the packets of a load cost together, after one was put, moved or taken.
use Rattle.std.proofs.Common.{◌≡◌, ℕ, zero, suc, ◌+◌, ◌<◌, ◌≤◌, ◌≢◌, List, length, None, sum_by, ap, refl, arith}
use Rattle.std.specs.List.{range_with_len}
use Rattle.std.proofs.lemmas.List.Sums.{sum_by-cons}
use native.Mathlib.Decide.{ℕ_discrete}
use Rattle.networks.specs.Nets.{Net}
use Rattle.networks.specs.Nets as nets
use Rattle.loads.specs.Loads.{packet, At}
use Rattle.loads.specs.Calls.{with_packet, without_packet, MayMove}
use Rattle.loads.specs.declared.LoadRecord.{LoadRecord}
use Rattle.loads.proofs.Records.{length_with, packet_with_same, packet_with_other, packet_without_same, packet_without_other}
use Rattle.certificates.specs.Promises.{cost, cost_of_load}
use Rattle.certificates.proofs.Packets.{apart, at_with}

-- sums over a range, of functions that are equal on it
sum_same : (f g : ℕ → ℕ) (a k : ℕ) → ((c : ℕ) → a ≤ c → f c ≡ g c) → sum_by f (range_with_len a k) ≡ sum_by g (range_with_len a k)
sum_same f g a zero same = refl
sum_same f g a (suc k) same =
    omega (
      arith,
      sum_by-cons f a (range_with_len (a + 1) k),
      sum_by-cons g a (range_with_len (a + 1) k),
      sum_same f g (a + 1) k (λ c l. same c (omega arith)),
      same a (omega arith),
    )

-- and of functions that differ at one number of it only
sum_but_one : (f g : ℕ → ℕ) (i a k : ℕ) → a ≤ i → i < a + k → ((c : ℕ) → c ≢ i → f c ≡ g c) → sum_by f (range_with_len a k) + g i ≡ sum_by g (range_with_len a k) + f i
sum_but_one f g i a zero l m same = absurd (omega arith)
sum_but_one f g i a (suc k) l m same = go (λ n. sum_but_one f g i (a + 1) k n (omega arith) same) (ℕ_discrete a i)
  where
    go : (a + 1 ≤ i → sum_by f (range_with_len (a + 1) k) + g i ≡ sum_by g (range_with_len (a + 1) k) + f i) → Dec (a ≡ i) → sum_by f (range_with_len a (suc k)) + g i ≡ sum_by g (range_with_len a (suc k)) + f i
    go again here =
        let x = sum_by-cons f a (range_with_len (a + 1) k) in
        let y = sum_by-cons g a (range_with_len (a + 1) k) in
        elim here [ yes e ↦ omega (arith, x, y, sum_same f g (a + 1) k (λ c h. same c (omega arith)), ap f e, ap g e) | no ne ↦ omega (arith, x, y, again (omega arith), same a ne) ]

module _ (n : Net) (g : ℕ → ℕ → ℕ) where
  -- loads that differ in one channel only
  cost_but_one : (l m : List LoadRecord) (c : ℕ) → c < n.channels → ((e : ℕ) → e ≢ c → packet m e ≡ packet l e) → cost_of_load g n m + cost g c (packet l c) ≡ cost_of_load g n l + cost g c (packet m c)
  cost_but_one l m c inside same =
      sum_but_one (λ e. cost g e (packet m e)) (λ e. cost g e (packet l e)) c 0 n.channels (omega arith) (omega arith) (λ e ne. ap (cost g e) (same e ne))

  -- a packet more, and one less
  pub cost_with : (l : List LoadRecord) (c d : ℕ) → c < n.channels → n.channels ≤ length l → packet l c ≡ None → cost_of_load g n (with_packet l c d) ≡ cost_of_load g n l + (g c d + 1)
  cost_with l c d inside long empty =
      let one = cost_but_one l (with_packet l c d) c inside (packet_with_other l c d) in
      let old : cost g c (packet l c) ≡ 0 = ap (cost g c) empty in
      let new : cost g c (packet (with_packet l c d) c) ≡ g c d + 1 = ap (cost g c) (packet_with_same l c d (omega arith)) in
      omega arith

  pub cost_without : (l : List LoadRecord) (c d : ℕ) → n.channels ≤ length l → At n l c d → cost_of_load g n (without_packet l c) + (g c d + 1) ≡ cost_of_load g n l
  cost_without l c d long at =
      let one = cost_but_one l (without_packet l c) c at.0 (packet_without_other l c) in
      let old : cost g c (packet l c) ≡ g c d + 1 = ap (cost g c) at.1 in
      let new : cost g c (packet (without_packet l c) c) ≡ 0 = ap (cost g c) (packet_without_same l c) in
      omega arith

  -- a packet that moved on
  pub cost_moved : nets.Conditions n → (l : List LoadRecord) (c k d h : ℕ) → MayMove n l c k d h → cost_of_load g n (without_packet (with_packet l h d) c) + g c d ≡ cost_of_load g n l + g h d
  cost_moved ok l c k d h may =
      let inside : h < n.channels = rw may.way.1 (ok.ways_inside c d k may.way.0) in
      let put = cost_with l h d inside may.records may.empty in
      let at = at_with n l c d h d (apart l c h d may.stands.1 may.empty) may.stands in
      let taken = cost_without (with_packet l h d) c d (rw length_with may.records) at in
      omega arith
