-- The count of packets.
use Rattle.std.proofs.Common.{◌≡◌, ℕ, zero, suc, ◌<◌, ◌≤◌, Bool, List, [], ◌∷◌, length, take, cond, is_some, count_by, Some, None, Option, refl, arith}
use Rattle.std.proofs.lemmas.List.{length-take-le}
use Rattle.std.proofs.lemmas.List.Sums.{sum_by-cons, count_by-le-length}
use Rattle.networks.specs.Nets.{Net}
use Rattle.loads.specs.Loads.{packet_in, packet}
use Rattle.loads.specs.Calls.{packet_count}
use Rattle.loads.specs.declared.LoadRecord.{LoadRecord}

abbrev filled : LoadRecord → Bool
filled r = is_some (packet_in r)

abbrev one : LoadRecord → ℕ
one r = cond (filled r) 1 0

most_one : (r : LoadRecord) (p : Option ℕ) → packet_in r ≡ p → one r ≤ 1
most_one r None e = rw e (omega arith)
most_one r (Some d) e = rw e (omega arith)

-- fewer than k of the first k records hold a packet if one of them holds none
count_below : (k : ℕ) (load : List LoadRecord) (c : ℕ) → c < k → k ≤ length load → packet load c ≡ None → count_by filled (take k load) < k
count_below zero load c l m e = absurd (omega arith)
count_below (suc k) [] c l m e = absurd (omega arith)
count_below (suc k) (r ∷ rs) zero l m e =
    let z : one r ≡ 0 = rw e refl in
    omega (arith, z, sum_by-cons one r (take k rs), count_by-le-length filled (take k rs), length-take-le k rs (omega arith))
count_below (suc k) (r ∷ rs) (suc c) l m e =
    omega (arith, most_one r (packet_in r) refl, sum_by-cons one r (take k rs), count_below k rs c (omega arith) (omega arith) e)

-- so not every channel holds a packet if one is empty
pub not_full : (n : Net) (load : List LoadRecord) (c : ℕ) → n.channels ≤ length load → c < n.channels → packet load c ≡ None → packet_count n load ≡ n.channels → ⊥
not_full n load c r l e full = omega (arith, full, count_below n.channels load c l r e)
