-- The release system of a network's pairs, and the routes of packets.
use Rattle.std.specs.Prelude.{◌≡◌, Bool, ℕ, suc, ◌/◌, ◌%◌, ◌≤◌, false, cond, ◌&&◌, [], length, map, take, drop, max, Some, nat_lt}
use Rattle.networks.specs.Nets.{Net, Way, most_ways}
use Rattle.networks.specs.Allowed.{Allowed, pairs, position, must_move}
use Rattle.numbering.specs.Systems.{System, no_label}
use Rattle.numbering.specs.declared.Label.{Label}

-- what an item stands for: the pair at its position
abbrev pub pair_label : Net → ℕ → Label
pair_label n i = cond (nat_lt i (pairs n)) (record { channel = i / n.places; place = Some (i % n.places) }) no_label

-- The items are the pairs, by their positions. Where by the table packets for d can come to be in c and then have to move on,
-- slot k holds a need with the one way (way k, d). Where such a pair has no ways, slot 0 holds a need without ways.
abbrev pub route : Net → (ℕ → Bool) → System
route n allowed = record {
  items = pairs n;
  slots = most_ways;
  need = λ i k. must_move n allowed (i / n.places) (i % n.places) && nat_lt k (max 1 (length (n.ways (i / n.places) (i % n.places))));
  ways = λ i k. map (λ h. position n h (i % n.places)) (take 1 (drop k (n.ways (i / n.places) (i % n.places))));
  label = pair_label n;
}

-- So many moves lead a packet for d from one channel to another: it moves on from allowed pairs that are not home, by ways.
pub data Path (n : Net) (d : ℕ) : ℕ → ℕ → ℕ → Type 0 where
  stays : {c : ℕ} → Path n d c 0 c
  moves : {c h e k : ℕ} → Allowed n c d → n.home c d ≡ false → Way n c d h → Path n d h k e → Path n d c (suc k) e

-- The longest route from the pair has k moves: there is one of k moves, and none has more.
pub record Longest (n : Net) (c d k : ℕ) : Type 0 where
  pub some : (e : ℕ) × Path n d c k e
  pub none_longer : (e m : ℕ) → Path n d c m e → m ≤ k

-- The pair is allowed and not home, and has no ways.
pub record Dry (n : Net) (c d : ℕ) : Type 0 where
  pub allowed : Allowed n c d
  pub away : n.home c d ≡ false
  pub no_ways : n.ways c d ≡ []

-- From the pair a packet can circle, which is to reach a channel and to come back to it from there by at least one move, or run
-- dry, which is to reach a pair that is dry.
pub data Endless (n : Net) (c d : ℕ) : Type 0 where
  circles : {h k j : ℕ} → Path n d c k h → Path n d h (suc j) h → Endless n c d
  dry : {h k : ℕ} → Path n d c k h → Dry n h d → Endless n c d
