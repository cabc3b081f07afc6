-- No call moves a packet of a blocked load.
use Rattle.std.proofs.Common.{◌≡◌, ℕ, ◌≢◌, true, false, List, [], ◌∷◌, Ok, Err, refl}
use Rattle.std.proofs.lemmas.Bool.{both_ways}
use Rattle.networks.specs.Nets.{Net, Way}
use Rattle.loads.specs.Loads.{At, Blocked}
use Rattle.loads.specs.Calls.{MayMove, MayTake}
use Rattle.loads.specs.Runs.{Call, Put, MoveOn, Take, Answer, Gives, Step, Run, ends, next, accepted, progress}
use Rattle.loads.specs.declared.LoadRecord.{LoadRecord}
use Rattle.certificates.specs.Promises.{OursStand, CanProgress}
use Rattle.certificates.proofs.Packets.{apart, at_with, at_without}

module _ (n : Net) (ours : List LoadRecord) (blocked : Blocked n ours) where
  -- no packet of ours may move or be taken
  unmoved : (l : List LoadRecord) (e k f h : ℕ) → OursStand n ours l → MayMove n l e k f h → (c d : ℕ) → At n ours c d → c ≢ e
  unmoved l e k f h s may c d p same =
      let there : At n ours e d = rw same at p in
      let one : f ≡ d = cc (may.stands.1, (s e d there).1) in
      let way : Way n e f h = (k, may.way.0, may.way.1) in
      let full = blocked.full e d h there (rw one at way) in
      apart l h h full.0 (s h full.0 full.1).1 may.empty refl

  untaken : (l : List LoadRecord) (e f : ℕ) → OursStand n ours l → MayTake n l e f → (c d : ℕ) → At n ours c d → c ≢ e
  untaken l e f s may c d p same =
      let there : At n ours e d = rw same at p in
      let one : f ≡ d = cc (may.stands.1, (s e d there).1) in
      both_ways (n.home e d) (blocked.away e d there) (rw one at may.home)

  -- one call
  stands_call : (l m : List LoadRecord) (call : Call) (a : Answer call) → OursStand n ours l → Gives n l call a m → OursStand n ours m
  stands_call l m (Put e f) (Ok _) s (may, same) c d p =
      rw same (at_with n l c d e f (apart l c e d (s c d p).1 may.empty) (s c d p))
  stands_call l m (Put e f) (Err _) s (told, same) c d p = rw same (s c d p)
  stands_call l m (MoveOn e k) (Ok _) s (f, h, may, same) c d p =
      let at = at_with n l c d h f (apart l c h d (s c d p).1 may.empty) (s c d p) in
      rw same (at_without n _ c d e (unmoved l e k f h s may c d p) at)
  stands_call l m (MoveOn e k) (Err _) s (told, same) c d p = rw same (s c d p)
  stands_call l m (Take e) (Ok f) s (may, same) c d p = rw same (at_without n l c d e (untaken l e f s may c d p) (s c d p))
  stands_call l m (Take e) (Err _) s (told, same) c d p = rw same (s c d p)

  pub stands : (l m : List LoadRecord) (steps : List Step) → OursStand n ours l → Run n l steps m → OursStand n ours m
  stands l m [] s ends = s
  stands l m (step ∷ steps) s (next {m = o} gives run) = stands o m steps (stands_call l o step.call step.answer s gives) run

  -- no move or take would be accepted
  waits_call : (call : Call) (a : Answer call) (m : List LoadRecord) → progress call ≡ true → accepted call a ≡ true → Gives n ours call a m → ⊥
  waits_call (Put e f) a m is fine gives = both_ways false refl is
  waits_call (MoveOn e k) (Ok _) m is fine (f, h, may, same) = unmoved ours e k f h (λ c d at. at) may e f may.stands refl
  waits_call (MoveOn e k) (Err _) m is fine gives = both_ways false refl fine
  waits_call (Take e) (Ok f) m is fine (may, same) = untaken ours e f (λ c d at. at) may e f may.stands refl
  waits_call (Take e) (Err _) m is fine gives = both_ways false refl fine

  pub waits : CanProgress n ours → ⊥
  waits x = waits_call x.0 x.1 x.2 x.3 x.4 x.5
