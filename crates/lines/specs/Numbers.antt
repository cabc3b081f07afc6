-- Numbers as a field spells them.
use Rattle.std.specs.Prelude.{◌≡◌, ℕ, ◌<◌, ◌≤◌, List, length, decimal, slice_index, slice_index_or}

-- one to four digits, and no leading zero but that of 0 itself
pub record Spelled (bytes : List ℕ) : Type 0 where
  pub some : 0 < length bytes
  pub few : length bytes ≤ 4
  pub digits : (k : ℕ) → k < length bytes → (48 ≤ slice_index bytes k) × (slice_index bytes k ≤ 57)
  pub leading : slice_index_or bytes 0 0 ≡ 48 → length bytes ≡ 1

-- the bytes are the number n in base ten
pub record Spells (bytes : List ℕ) (n : ℕ) : Type 0 where
  pub small : n < 10000
  pub written : bytes ≡ decimal n
