-- What the queue holds while a network is traced.
use Rattle.std.specs.Prelude.{◌≡◌, ℕ, ◌^◌, ◌<◌, ◌≤◌, List, length, count_by, nat_eq, slice_index}

-- The marked pairs are `end`, and the first `end` words of the queue are their positions. The first `head` of them were taken.
pub record Queued (table queue : List ℕ) (end head : ℕ) : Type 0 where
  pub few : length table < 2 ^ 32
  pub words : length queue ≡ length table
  pub binary : (i : ℕ) → slice_index table i ≤ 1
  pub count : count_by (λ byte. nat_eq byte 1) table ≡ end
  pub marked : (j : ℕ) → j < end → slice_index table (slice_index queue j) ≡ 1
  pub held : (i : ℕ) → slice_index table i ≡ 1 → ∥ ((j : ℕ) × (j < end) × (slice_index queue j ≡ i)) ∥₁
  pub reached : head ≤ end
