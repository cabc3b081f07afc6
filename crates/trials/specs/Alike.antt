-- Networks that give the same answers.
use Rattle.std.specs.Prelude.{◌≡◌, ℕ, ◌<◌, ◌≤◌, length, slice_index}
use Rattle.networks.specs.Nets.{Net}

-- about the pair of channel c and place d
pub record AlikeAt (m n : Net) (c d : ℕ) : Type 0 where
  pub entry : m.entry c d ≡ n.entry c d
  pub home : m.home c d ≡ n.home c d
  pub count : length (m.ways c d) ≡ length (n.ways c d)
  pub way : (k : ℕ) → k < length (m.ways c d) → slice_index (m.ways c d) k ≡ slice_index (n.ways c d) k

-- about every pair, those of one channel and one place past the last included
pub record Alike (m n : Net) : Type 0 where
  pub channels : m.channels ≡ n.channels
  pub places : m.places ≡ n.places
  pub pairs : (c d : ℕ) → c ≤ m.channels → d ≤ m.places → AlikeAt m n c d
