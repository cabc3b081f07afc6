-- What tracing a network gives.
use Rattle.std.specs.Prelude.{◌≡◌, ℕ, ◌<◌, ◌≤◌, ◌⊎◌, List, [], ◌∷◌, length, take, Some, None, Ok, Err, count_by, Result, nat_eq, slice_index}
use Rattle.networks.specs.Allowed.{Allowed, pairs, position}
use Rattle.networks.specs.Cleared.{AllZero}
use Rattle.networks.specs.Nets.{Net}
use Rattle.networks.specs.Rooms.{Room, first_short}
use Rattle.networks.specs.declared.faults.Buffer.{Buffer}
use Rattle.networks.specs.declared.faults.Buffer.TheVariants as buffer
use Rattle.networks.specs.declared.faults.StudyFault.{StudyFault}
use Rattle.networks.specs.declared.faults.StudyFault.TheVariants.{Short}

-- the byte that tells whether something holds: 1 if it does, 0 if it does not
abbrev pub Tells : Type 0 → ℕ → Type 0
Tells P byte = (P × (byte ≡ 1)) ⊎ ((P → ⊥) × (byte ≡ 0))

-- The table tells of each pair whether it is allowed. What lies beyond the pairs is as it was. So many bytes of pairs are 1.
pub record Traced (n : Net) (before after : List ℕ) (ones : ℕ) : Type 0 where
  pub bytes : (c d : ℕ) → c < n.channels → d < n.places → Tells (Allowed n c d) (slice_index after (position n c d))
  pub beyond : (k : ℕ) → pairs n ≤ k → slice_index after k ≡ slice_index before k
  pub count : ones ≡ count_by (λ byte. nat_eq byte 1) (take (pairs n) after)

-- The buffers that tracing is lent: a byte and a word for each pair.
abbrev pub rooms : Net → List ℕ → ℕ → List Room
rooms n table work = record { buffer = buffer.Allowed; needed = pairs n; given = length table } ∷ (record { buffer = buffer.Work; needed = pairs n; given = work } ∷ [])

-- Tracing fills the table and answers its count, or names the first buffer that is too short and leaves the table.
abbrev pub Traces : Net → List ℕ → ℕ → Result ℕ StudyFault → List ℕ → Type 0
Traces n before work (Ok count) after = (first_short (rooms n before work) ≡ None) × Traced n before after count
Traces n before work (Err f) after = (b : Buffer) × (first_short (rooms n before work) ≡ Some b) × (f ≡ Short b) × (after ≡ before)

-- What a call of tracing leaves: its answer, and what stands in the table and in the work area.
pub record Left : Type 0 where
  pub answer : Result ℕ StudyFault
  pub table : List ℕ
  pub work : List ℕ

-- Tracing may leave this of a table and a work area with these bytes and words. Lent buffers keep their lengths.
pub record Leaves (n : Net) (table work : List ℕ) (x : Left) : Type 0 where
  pub traces : Traces n table (length work) x.answer x.table
  pub cleared : AllZero x.work
  pub bytes : length x.table ≡ length table
  pub words : length x.work ≡ length work
