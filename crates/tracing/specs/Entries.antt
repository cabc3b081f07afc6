-- Entries of one channel.
use Rattle.std.specs.Prelude.{◌≡◌, ℕ, ◌<◌, ◌≤◌, false}
use Rattle.networks.specs.Nets.{Net}

-- No pair of channel c is an entry whose place lies from the first of two places on and below the second.
abbrev pub NoEntry : Net → ℕ → ℕ → ℕ → Type 0
NoEntry n c from to = (d : ℕ) → from ≤ d → d < to → n.entry c d ≡ false
