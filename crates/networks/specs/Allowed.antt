-- The pairs that packets can reach.
use Rattle.std.specs.Prelude.{◌≡◌, ℕ, ◌+◌, ◌*◌, true, false, Bool, not, ◌&&◌, List, nat_lt, nat_eq, slice_index}
use Rattle.networks.specs.Nets.{Net, Way}

-- Every entry is allowed, and so is each pair to which an allowed packet that is not home may move. No other pair is.
pub data Allowed (n : Net) : ℕ → ℕ → Type 0 where
  enters : {c d : ℕ} → n.entry c d ≡ true → Allowed n c d
  moves : {c d h : ℕ} → Allowed n c d → n.home c d ≡ false → Way n c d h → Allowed n h d

-- how many pairs a network has, and the position of a pair in a table of them
abbrev pub pairs : Net → ℕ
pairs n = n.channels * n.places

abbrev pub position : Net → ℕ → ℕ → ℕ
position n c d = c * n.places + d

-- A byte of a table of allowed pairs says that its pair is allowed exactly if it is 1.
abbrev pub says_allowed : ℕ → Bool
says_allowed byte = nat_eq byte 1

-- what a table says of each position; a byte that is missing counts as 0
abbrev pub said : List ℕ → ℕ → Bool
said table k = says_allowed (slice_index table k)

-- whether the pair is among those that are said to be allowed
abbrev pub listed : Net → (ℕ → Bool) → ℕ → ℕ → Bool
listed n allowed c d = nat_lt c n.channels && (nat_lt d n.places && allowed (position n c d))

-- whether by what is said to be allowed a packet may come to be in the channel, and then has to move on
abbrev pub must_move : Net → (ℕ → Bool) → ℕ → ℕ → Bool
must_move n allowed c d = listed n allowed c d && not (n.home c d)
