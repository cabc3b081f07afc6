-- The certificate of a lane says what the lane is.
use Rattle.std.proofs.Common.{◌≡◌, ℕ, ◌+◌, ◌-◌, ◌<◌, Bool, true, false, if◌then◌else◌, List, [], ◌∷◌, map, Ok, Err, Result, MatchResult, refl, sym, ◌∙◌, arith}
use Rattle.std.specs.Bool.{Decides}
use Rattle.networks.specs.Nets.{Inside}
use Rattle.networks.specs.declared.faults.StudyFault.{StudyFault}
use Rattle.numbering.specs.Numbers.{held_number}
use Rattle.loads.specs.Loads.{nothing, At, Holds, Blocked}
use Rattle.loads.specs.Runs.{Step, Run, OneRun, progress_made}
use Rattle.loads.specs.declared.LoadRecord.{LoadRecord}
use Rattle.checks.specs.declared.outcome.Verdict.TheVariants as verdicts
use Rattle.routes.specs.Outcomes.{number_of}
use Rattle.routes.specs.Routing.{Longest}
use Rattle.certificates.specs.Certificates.{Certified, Certifies}
use Rattle.certificates.specs.Promises.{cost_of_load, cost_of_run}
use Rattle.certificates.specs.Lanes.{lane, bare, full, crossing, Passing, Jammed, LaneCertified}
use Rattle.certificates.specs.declared.Certificate.{Certificate}
use Rattle.certificates.proofs.LaneFacts.{only_two, full_at, full_holds, full_allowed, full_blocked, crosses, waits, nothing_endless, last_dry, lane_sound, first_longest, last_longest, costs}

module _ (allowed allowed' numbers numbers' : List ℕ) (load load' : List LoadRecord) (longest longest' : List ℕ) (a : Certificate) where
  -- whether the network is arriving
  arrives : (exit : Bool) → Certified (lane exit) allowed allowed' numbers numbers' load load' longest longest' a → a.routes.arriving ≡ exit
  arrives true c = c.routed.arriving.1 (λ k d i e. nothing_endless k d (c.routed.endless k d i e))
  arrives false c = go a.routes.arriving c.routed.arriving
    where
      there : Inside (lane false) 1 0
      there = record { channel = omega arith; place = omega arith }

      go : (b : Bool) → Decides b ((k d : ℕ) → Inside (lane false) k d → number_of (lane false) longest' k d ≡ held_number → ⊥) → b ≡ false
      go false x = refl
      go true x = absurd (c.routed.ends 1 0 there (x.0 refl 1 0 there) last_dry)

  verdict : (exit : Bool) → Certified (lane exit) allowed allowed' numbers numbers' load load' longest longest' a → a.check.verdict ≡ (if exit then verdicts.Free else verdicts.Blocked)
  verdict true c = (c.promises.least (λ k. 1 - k) lane_sound).0
  verdict false c = (c.promises.greatest full full_blocked).0

  passing : Certified (lane true) allowed allowed' numbers numbers' load load' longest longest' a → Passing (lane true) (number_of (lane true) longest')
  passing c = record {
    sound = lane_sound;
    emptied = c.promises.empties.0 (verdict true c) full (omega arith) (full_allowed true);
    crosses = crosses;
    costs = as_many;
    most = λ steps m run same. let few = (c.promises.comes_home (verdict true c) (arrives true c) full m steps (omega arith) (full_allowed true) run).0 in omega (arith, few, same, as_many);
    only = λ steps m e run. (
      (run_of.only steps m e run).0 ∙ sym (run_of.only crossing bare refl crosses).0,
      (run_of.only steps m e run).1 ∙ sym (run_of.only crossing bare refl crosses).1,
    );
  }
    where
      run_of : OneRun (lane true) full (map (λ (s : Step). s.call) crossing)
      run_of = c.promises.one_run full (map (λ (s : Step). s.call) crossing)

      far : (k : ℕ) → k < 2 → Longest (lane true) k 0 (number_of (lane true) longest' k 0)
      far k l = let i : Inside (lane true) k 0 = record { channel = l; place = omega arith } in c.routed.longest k 0 i (c.routed.arriving.0 (arrives true c) k 0 i)

      as_many : progress_made crossing ≡ cost_of_load (number_of (lane true) longest') (lane true) full + cost_of_run (number_of (lane true) longest') crossing
      as_many = costs (number_of (lane true) longest') (first_longest _ (far 0 (omega arith))) (last_longest _ (far 1 (omega arith)))

  jammed : Certified (lane false) allowed allowed' numbers numbers' load load' longest longest' a → Jammed (lane false)
  jammed c = record {
    blocked = full_blocked;
    waits = waits;
    stuck = c.promises.waits full full_blocked;
    stays = λ calls. let r = c.promises.one_run full calls in (r.steps, r.end, r.made, r.run, λ k l. stays r.steps r.end r.run k l);
  }
    where
      most : (a.check.verdict ≡ verdicts.Blocked) × Blocked (lane false) load' × ((k : ℕ) → Holds (lane false) full k → Holds (lane false) load' k)
      most = c.promises.greatest full full_blocked

      stays : (steps : List Step) (m : List LoadRecord) → Run (lane false) full steps m → (k : ℕ) → k < 2 → At (lane false) m k 0
      stays steps m run k l =
          let ours = most.2 k (full_holds false k l) in
          let place = (only_two false k ours.0 (most.1.allowed k ours.0 ours.1)).1 in
          let here : At (lane false) load' k 0 = rw place at ours.1 in
          c.promises.stands most.0 full m steps (λ e d at. full_at false e d (most.1.allowed e d at)) run k 0 here

  with_exit : (exit : Bool) → exit ≡ true → Certified (lane exit) allowed allowed' numbers numbers' load load' longest longest' a → Passing (lane exit) (number_of (lane exit) longest')
  with_exit true e c = passing c
  with_exit false e c = absurd (cc)

  without_exit : (exit : Bool) → exit ≡ false → Certified (lane exit) allowed allowed' numbers numbers' load load' longest longest' a → Jammed (lane exit)
  without_exit true e c = absurd (cc)
  without_exit false e c = jammed c

  lane_certified : (exit : Bool) → Certified (lane exit) allowed allowed' numbers numbers' load load' longest longest' a → LaneCertified exit a
  lane_certified exit c = record {
    allowed = allowed;
    allowed' = allowed';
    numbers = numbers;
    numbers' = numbers';
    load = load;
    load' = load';
    longest = longest;
    longest' = longest';
    certified = c;
    verdict = verdict exit c;
    arriving = arrives exit c;
    load_allowed = full_allowed exit;
    passing = λ e. with_exit exit e c;
    jammed = λ e. without_exit exit e c;
  }

-- two items a buffer are enough for a lane
pub two_suffice : (exit : Bool) (r : Result Certificate StudyFault) (table' numbers' longest' : List ℕ) (load' : List LoadRecord) → Certifies (lane exit) (0 ∷ (0 ∷ [])) (0 ∷ (0 ∷ [])) (nothing ∷ (nothing ∷ [])) (0 ∷ (0 ∷ [])) 2 r table' numbers' load' longest' → MatchResult r (LaneCertified exit) (λ f. ⊥)
two_suffice exit (Ok a) table' numbers' longest' load' c = lane_certified _ table' _ numbers' _ load' _ longest' a exit c.1
two_suffice exit (Err f) table' numbers' longest' load' c = let e = c.1 in cc
