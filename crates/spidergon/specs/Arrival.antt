-- Routes of a Spidergon.
use Rattle.std.specs.Prelude.{◌≡◌, ℕ, suc, ◌<◌, ◌≤◌, ◌↔◌, true, false, length}
use Rattle.networks.specs.Nets.{Net, Way}
use Rattle.spidergon.specs.Rings.{spidergon}

-- Every route from the pair is home within m moves: it is home, or it can move on and is home within one move less
-- whichever way it takes.
pub data HomeWithin (n : Net) : ℕ → ℕ → ℕ → Type 0 where
  arrived : {m c d : ℕ} → n.home c d ≡ true → HomeWithin n m c d
  moves : {m c d : ℕ} → n.home c d ≡ false → 0 < length (n.ways c d) → ((h : ℕ) → Way n c d h → HomeWithin n m h d) → HomeWithin n (suc m) c d

-- A route of so many moves leads a packet for d from one channel to another: it moves on from pairs that are not home, by ways.
pub data Route (n : Net) (d : ℕ) : ℕ → ℕ → ℕ → Type 0 where
  stays : {c : ℕ} → Route n d c 0 c
  goes : {c h e k : ℕ} → n.home c d ≡ false → Way n c d h → Route n d h k e → Route n d c (suc k) e

-- Packets come home in at most m moves: no route from the pair has more, and wherever one leads the packet is home or can move on.
pub record ComesHome (n : Net) (m c d : ℕ) : Type 0 where
  pub short : (e k : ℕ) → Route n d c k e → k ≤ m
  pub on : (e k : ℕ) → Route n d c k e → n.home e d ≡ false → 0 < length (n.ways e d)

-- To be home within m moves says just this of the routes of a pair, in whatever network.
abbrev pub ByRoutes : Type 0
ByRoutes = (n : Net) (m c d : ℕ) → HomeWithin n m c d ↔ ComesHome n m c d

-- from every entry of a Spidergon of size n, every route is home within m moves
abbrev pub Arrives : ℕ → ℕ → Type 0
Arrives n m = (c d : ℕ) → (spidergon n).entry c d ≡ true → HomeWithin (spidergon n) m c d
