-- In a network where the routes of packets end, the accepted moves and takes of a run are bounded.
use Rattle.std.proofs.Common.{◌≡◌, ℕ, ◌+◌, ◌<◌, ◌≤◌, true, false, cond, ◌&&◌, List, [], ◌∷◌, length, Ok, Err, arith}
use Rattle.std.proofs.lemmas.List.Sums.{sum_by-cons}
use Rattle.networks.specs.Allowed.{Allowed, moves}
use Rattle.networks.specs.Nets.{Net, Way}
use Rattle.networks.specs.Nets as nets
use Rattle.networks.proofs.Inside.{allowed_inside, entry_inside}
use Rattle.loads.specs.Loads.{AllowedLoad}
use Rattle.loads.specs.Runs.{Call, Put, MoveOn, Take, Answer, Gives, Step, Run, ends, next, accepted, progress, progress_made}
use Rattle.loads.specs.declared.LoadRecord.{LoadRecord}
use Rattle.routes.specs.Routing as routing
use Rattle.routes.specs.Outcomes.{Routed, number_of}
use Rattle.routes.specs.declared.outcome.Routes.{Routes}
use Rattle.certificates.specs.Promises.{cost_of_load, cost_of_call, cost_of_run}
use Rattle.certificates.proofs.Allowing.{allowed_call}
use Rattle.certificates.proofs.Costs.{cost_with, cost_without, cost_moved}

-- each move of an allowed packet leads to a pair with a smaller number
abbrev Falls : Net → (ℕ → ℕ → ℕ) → Type 0
Falls n g = (c d h : ℕ) → Allowed n c d → n.home c d ≡ false → Way n c d h → g h d < g c d

-- 1 for an accepted move or take
abbrev made : (call : Call) → Answer call → ℕ
made call a = cond (progress call && accepted call a) 1 0

module _ (n : Net) (ok : nets.Conditions n) where
  module _ (g : ℕ → ℕ → ℕ) (falls : Falls n g) where
    -- An accepted move or take lowers what the load costs by at least 1; a put raises it by what the packet costs.
    paid_call : (l m : List LoadRecord) (call : Call) (a : Answer call) → AllowedLoad n l → Gives n l call a m → cost_of_load g n m + made call a ≤ cost_of_load g n l + cost_of_call g call a
    paid_call l m (Put c d) (Ok _) allowed (may, same) =
        rw same (omega (arith, cost_with n g l c d (entry_inside n ok c d may.entry).channel may.records may.empty))
    paid_call l m (Put c d) (Err _) allowed (told, same) = rw same (omega arith)
    paid_call l m (MoveOn c k) (Ok _) allowed (d, h, may, same) =
        rw same (omega (arith, cost_moved n g ok l c k d h may, falls c d h (allowed c d may.stands) may.away (k, may.way.0, may.way.1)))
    paid_call l m (MoveOn c k) (Err _) allowed (told, same) = rw same (omega arith)
    paid_call l m (Take c) (Ok d) allowed (may, same) = rw same (omega (arith, cost_without n g l c d may.records may.stands))
    paid_call l m (Take c) (Err _) allowed (told, same) = rw same (omega arith)

    -- so what the load costs in the end and the accepted moves and takes are together at most what the packets cost
    paid : (l m : List LoadRecord) (steps : List Step) → AllowedLoad n l → Run n l steps m → cost_of_load g n m + progress_made steps ≤ cost_of_load g n l + cost_of_run g steps
    paid l m [] allowed ends = omega arith
    paid l m (s ∷ ss) allowed (next {m = o} gives run) =
        omega (
          arith,
          sum_by-cons (λ (s : Step). made s.call s.answer) s ss,
          sum_by-cons (λ (s : Step). cost_of_call g s.call s.answer) s ss,
          paid_call l o s.call s.answer allowed gives,
          paid o m ss (allowed_call n ok l o s.call s.answer allowed gives) run,
        )

    -- and the moves and takes alone are
    pub bounded : (l m : List LoadRecord) (steps : List Step) → n.channels ≤ length l → AllowedLoad n l → Run n l steps m → progress_made steps ≤ cost_of_load g n l + cost_of_run g steps
    bounded l m steps _ allowed run = omega (arith, paid l m steps allowed run)

  -- In an arriving network each move leads to a pair whose longest route is shorter.
  pub longest_falls : (a a' numbers numbers' : List ℕ) (r : Routes) → Routed n a a' numbers numbers' r → r.arriving ≡ true → Falls n (number_of n numbers')
  longest_falls a a' numbers numbers' r routed arriving c d h allowed away way =
      let far = routed.arriving.0 arriving in
      let here = allowed_inside n ok allowed in
      let there = allowed_inside n ok (moves allowed away way) in
      let rest = (routed.longest h d there (far h d there)).some in
      (routed.longest c d here (far c d here)).none_longer rest.0 _ (routing.moves allowed away way rest.1)
