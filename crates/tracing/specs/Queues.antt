-- The table and the queue while a network is traced. A pair is marked if its byte is 1.
use Rattle.std.specs.Prelude.{◌≡◌, ℕ, ◌+◌, ◌/◌, ◌%◌, ◌<◌, ◌≤◌, true, false, List, Option, Some, None, All, length, slice_index}
use Rattle.networks.specs.Allowed.{Allowed, pairs, position}
use Rattle.networks.specs.Nets.{Net}
use Rattle.tracing.specs.declared.Marks.{Marks}

-- The table and the queue are those that were lent before.
abbrev pub SameLent : Marks → Marks → Type 0
SameLent before after = (after.table.ghost_name ≡ before.table.ghost_name) × (after.queue.ghost_name ≡ before.queue.ghost_name)

-- What was marked or queued stays.
pub record Grown (before after : Marks) : Type 0 where
  pub lent : SameLent before after
  pub bytes : length after.table.now ≡ length before.table.now
  pub head : after.head ≡ before.head
  pub more : before.end ≤ after.end
  pub keeps : (i : ℕ) → slice_index before.table.now i ≡ 1 → slice_index after.table.now i ≡ 1
  pub front : (j : ℕ) → j < before.end → slice_index after.queue.now j ≡ slice_index before.queue.now j

-- The first queued pair that was not taken before, if there is one.
abbrev pub Taken : Marks → Marks → Option ℕ → Type 0
Taken before after None = (before.head ≡ before.end) × (after ≡ before)
Taken before after (Some i) =
    (before.head < before.end) × (i ≡ slice_index before.queue.now before.head) × (after.table ≡ before.table) × (after.queue ≡ before.queue) × (after.end ≡ before.end) × (after.head ≡ before.head + 1)

-- There is a byte for each pair, and each marked pair is allowed.
pub record Sound (n : Net) (m : Marks) : Type 0 where
  pub bytes : length m.table.now ≡ pairs n
  pub allowed : (i : ℕ) → slice_index m.table.now i ≡ 1 → Allowed n (i / n.places) (i % n.places)

-- Each entry at a position below k is marked.
abbrev pub Entered : Net → Marks → ℕ → Type 0
Entered n m k = (i : ℕ) → i < k → n.entry (i / n.places) (i % n.places) ≡ true → slice_index m.table.now i ≡ 1

-- The pairs of these channels and the place d are marked.
abbrev pub AllMarked : Net → Marks → List ℕ → ℕ → Type 0
AllMarked n m channels d = All (λ c. slice_index m.table.now (position n c d) ≡ 1) channels

-- The pair at position i is home, or its ways are marked.
abbrev pub Passed : Net → Marks → ℕ → Type 0
Passed n m i = n.home (i / n.places) (i % n.places) ≡ false → AllMarked n m (n.ways (i / n.places) (i % n.places)) (i % n.places)

-- All entries are marked, and each pair that was taken is home, or its ways are marked.
pub record Followed (n : Net) (m : Marks) : Type 0 where
  pub sound : Sound n m
  pub entered : Entered n m (pairs n)
  pub passed : (j : ℕ) → j < m.head → Passed n m (slice_index m.queue.now j)
