-- Ways in a room of fixed length: the first of its numbers count, and those behind them are 0.
use Rattle.std.specs.Prelude.{◌≡◌, ℕ, ◌-◌, ◌≤◌, List, ◌++◌, length, take, drop, replicate}
use Rattle.std.proofs.Common.{sym, ap, ◌∙◌, arith, length-take-le, take-append-drop}
use Rattle.networks.specs.Nets.{most_ways}

pub record Filled (count : ℕ) (room : List ℕ) : Type 0 where
  pub few : count ≤ most_ways
  pub len : length room ≡ most_ways
  pub rest : drop count room ≡ replicate (most_ways - count) 0

-- the room of the ways
abbrev pub room_of : List ℕ → List ℕ
room_of ways = ways ++ replicate (most_ways - length ways) 0

pub same_count : (count : ℕ) (room : List ℕ) → Filled count room → length (take count room) ≡ count
same_count count room f = length-take-le count room (omega (arith, f.few, f.len))

pub same_room : (count : ℕ) (room : List ℕ) → Filled count room → room_of (take count room) ≡ room
same_room count room f = ap (λ n. take count room ++ replicate (most_ways - n) 0) (same_count count room f) ∙ ap (λ rest. take count room ++ rest) (sym f.rest) ∙ take-append-drop count room
