-- To be home within so many moves is a matter of routes.
use Rattle.std.proofs.Common.{◌≡◌, ℕ, zero, suc, ◌<◌, ◌≤◌, Bool, true, false, length, refl, arith}
use Rattle.std.proofs.lemmas.Bool.{both_ways}
use Rattle.networks.specs.Nets.{Net, Way}
use Rattle.spidergon.specs.Arrival.{HomeWithin, arrived, moves, Route, stays, goes, ComesHome, ByRoutes}

module _ (n : Net) where
  -- more moves suffice too
  pub more : {m c d : ℕ} → HomeWithin n m c d → (k : ℕ) → m ≤ k → HomeWithin n k c d
  more (arrived home) k l = arrived home
  more (moves away some on) zero l = absurd (omega arith)
  more (moves away some on) (suc k) l = moves away some (λ h w. more (on h w) k (omega arith))

  -- no route is longer
  pub short : {m c d : ℕ} → HomeWithin n m c d → (e k : ℕ) → Route n d c k e → k ≤ m
  short h e zero stays = omega arith
  short {c = c} {d = d} (arrived home) e (suc k) (goes away w r) = absurd (both_ways (n.home c d) away home)
  short (moves away some on) e (suc k) (goes away' w r) = let l = short (on _ w) e k r in omega arith

  -- a packet that is not home can move on
  can_move : {m c d : ℕ} → HomeWithin n m c d → (e k : ℕ) → Route n d c k e → n.home e d ≡ false → 0 < length (n.ways e d)
  can_move {c = c} {d = d} (arrived home) e zero stays away = absurd (both_ways (n.home c d) away home)
  can_move (moves away some on) e zero stays away' = some
  can_move {c = c} {d = d} (arrived home) e (suc k) (goes away w r) away' = absurd (both_ways (n.home c d) away home)
  can_move (moves away some on) e (suc k) (goes away' w r) away'' = can_move (on _ w) e k r away''

  -- past a move, packets come home in one move less
  past : (m c d h : ℕ) → n.home c d ≡ false → Way n c d h → ComesHome n (suc m) c d → ComesHome n m h d
  past m c d h away w r = record {
    short = λ e k p. let l = r.short e (suc k) (goes away w p) in omega arith;
    on = λ e k p. r.on e (suc k) (goes away w p);
  }

  home_or_moves : (m c d : ℕ) (b : Bool) → n.home c d ≡ b → ComesHome n m c d → HomeWithin n m c d
  home_or_moves m c d true home r = arrived home
  home_or_moves zero c d false away r =
      let some = r.on c 0 stays away in
      let l = r.short _ 1 (goes away (0, some, refl) stays) in
      absurd (omega arith)
  home_or_moves (suc m) c d false away r = moves away (r.on c 0 stays away) (λ h w. home_or_moves m h d (n.home h d) refl (past m c d h away w r))

pub by_routes : ByRoutes
by_routes n m c d = (λ h. record { short = short n h; on = can_move n h }, λ r. home_or_moves n m c d (n.home c d) refl r)
