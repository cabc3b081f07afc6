-- Every call has an answer on every load, and so every list of calls has one run.
use Rattle.std.proofs.Common.{◌≡◌, ℕ, ◌<◌, ◌≤◌, ◌⊎◌, inl, inr, true, false, List, [], ◌∷◌, length, map, slice_index, Option, Some, None, Ok, Err, subst, refl, ap, arith}
use native.Mathlib.Decide.{dec_lt, ℕ_discrete}
use Rattle.std.proofs.lemmas.Bool.{cases_Bool}
use Rattle.networks.specs.Nets.{Net, Conditions}
use Rattle.loads.specs.Loads.{packet, At}
use Rattle.loads.specs.Calls.{packet_count, Puts, Moves, Takes, full, taken, with_packet, without_packet}
use Rattle.loads.specs.Runs.{Call, Put, MoveOn, Take, Answer, Gives, Step, Run, ends, next, OneRun}
use Rattle.loads.proofs.OneAnswer.{puts_one, moves_one, takes_one}
use Rattle.loads.proofs.Refusals.{put_short, put_no_channel, put_no_place, put_no_entry, put_taken, move_short, move_no_channel, move_empty, move_home, move_no_way, move_taken, take_short, take_no_channel, take_empty, take_away}
use Rattle.loads.specs.declared.LoadRecord.{LoadRecord}

-- what stands in a channel
look : (load : List LoadRecord) (c : ℕ) → ((d : ℕ) × (packet load c ≡ Some d)) ⊎ (packet load c ≡ None)
look load c = go (packet load c) refl
  where
    go : (p : Option ℕ) → packet load c ≡ p → ((d : ℕ) × (packet load c ≡ Some d)) ⊎ (packet load c ≡ None)
    go (Some d) e = inl (d, e)
    go None e = inr e

-- an answer, and the load that is left
abbrev Answered : {A : Type 0} → (A → List LoadRecord → Type 0) → Type 0
Answered {A} Gives = (a : A) × (m : List LoadRecord) × Gives a m

module _ (n : Net) (ok : Conditions n) (l : List LoadRecord) where
  put_answer : (c d : ℕ) → Answered (Puts n l c d)
  put_answer c d = start (dec_lt (length l) n.channels) (dec_lt c n.channels) (dec_lt d n.places) (cases_Bool (n.entry c d)) (ℕ_discrete (packet_count n l) n.channels) (look l c)
    where
      start : Dec (length l < n.channels) → Dec (c < n.channels) → Dec (d < n.places) → (n.entry c d ≡ true) ⊎ (n.entry c d ≡ false) → Dec (packet_count n l ≡ n.channels) → ((x : ℕ) × (packet l c ≡ Some x)) ⊎ (packet l c ≡ None) → Answered (Puts n l c d)
      start (yes s) _ _ _ _ _ = (Err _, l, (put_short s, refl))
      start (no s) (no m) _ _ _ _ = (Err _, l, (put_no_channel (omega (arith, s)) (omega (arith, m)), refl))
      start (no s) (yes m) (no p) _ _ _ = (Err _, l, (put_no_place (omega (arith, s)) m (omega (arith, p)), refl))
      start (no s) (yes m) (yes p) (inr e) _ _ = (Err _, l, (put_no_entry (omega (arith, s)) m p e, refl))
      start (no s) (yes m) (yes p) (inl e) (yes all) _ = (Err _, l, (put_taken (omega (arith, s)) m p e (full all), refl))
      start (no s) (yes m) (yes p) (inl e) (no some) (inl x) = (Err _, l, (put_taken (omega (arith, s)) m p e (taken (x.0, (m, x.1))), refl))
      start (no s) (yes m) (yes p) (inl e) (no some) (inr x) = (Ok tt, with_packet l c d, (record { records = omega (arith, s); entry = e; empty = x }, refl))

  move_answer : (c k : ℕ) → Answered (Moves n l c k)
  move_answer c k = start (dec_lt (length l) n.channels) (dec_lt c n.channels) (look l c)
    where
      on : (d : ℕ) → n.channels ≤ length l → At n l c d → (n.home c d ≡ true) ⊎ (n.home c d ≡ false) → Dec (k < length (n.ways c d)) → ((x : ℕ) × (packet l (slice_index (n.ways c d) k) ≡ Some x)) ⊎ (packet l (slice_index (n.ways c d) k) ≡ None) → Answered (Moves n l c k)
      on d r at (inl e) _ _ = (Err _, l, (move_home r at e, refl))
      on d r at (inr e) (no w) _ = (Err _, l, (move_no_way r at e (omega (arith, w)), refl))
      on d r at (inr e) (yes w) (inl x) = (Err _, l, (move_taken r at e (slice_index (n.ways c d) k) (w, refl) (x.0, (ok.ways_inside c d k w, x.1)), refl))
      on d r at (inr e) (yes w) (inr x) =
          let h = slice_index (n.ways c d) k in
          (Ok tt, without_packet (with_packet l h d) c, (d, h, record { records = r; stands = at; away = e; way = (w, refl); empty = x }, refl))

      start : Dec (length l < n.channels) → Dec (c < n.channels) → ((x : ℕ) × (packet l c ≡ Some x)) ⊎ (packet l c ≡ None) → Answered (Moves n l c k)
      start (yes s) _ _ = (Err _, l, (move_short s, refl))
      start (no s) (no m) _ = (Err _, l, (move_no_channel (omega (arith, s)) (omega (arith, m)), refl))
      start (no s) (yes m) (inr e) = (Err _, l, (move_empty (omega (arith, s)) m e, refl))
      start (no s) (yes m) (inl x) = on x.0 (omega (arith, s)) (m, x.1) (cases_Bool (n.home c x.0)) (dec_lt k (length (n.ways c x.0))) (look l (slice_index (n.ways c x.0) k))

  take_answer : (c : ℕ) → Answered (Takes n l c)
  take_answer c = start (dec_lt (length l) n.channels) (dec_lt c n.channels) (look l c)
    where
      from : (d : ℕ) → n.channels ≤ length l → At n l c d → (n.home c d ≡ true) ⊎ (n.home c d ≡ false) → Answered (Takes n l c)
      from d r at (inl e) = (Ok d, without_packet l c, (record { records = r; stands = at; home = e }, refl))
      from d r at (inr e) = (Err _, l, (take_away r at e, refl))

      start : Dec (length l < n.channels) → Dec (c < n.channels) → ((x : ℕ) × (packet l c ≡ Some x)) ⊎ (packet l c ≡ None) → Answered (Takes n l c)
      start (yes s) _ _ = (Err _, l, (take_short s, refl))
      start (no s) (no m) _ = (Err _, l, (take_no_channel (omega (arith, s)) (omega (arith, m)), refl))
      start (no s) (yes m) (inr e) = (Err _, l, (take_empty (omega (arith, s)) m e, refl))
      start (no s) (yes m) (inl x) = from x.0 (omega (arith, s)) (m, x.1) (cases_Bool (n.home c x.0))

  answer : (call : Call) → Answered (Gives n l call)
  answer (Put c d) = put_answer c d
  answer (MoveOn c k) = move_answer c k
  answer (Take c) = take_answer c

  gives_one : (call : Call) (a b : Answer call) (m o : List LoadRecord) → Gives n l call a m → Gives n l call b o → (b ≡ a) × (o ≡ m)
  gives_one (Put c d) a b m o x y = puts_one n ok l c d a b m o x y
  gives_one (MoveOn c k) a b m o x y = moves_one n ok l c k a b m o x y
  gives_one (Take c) a b m o x y = takes_one n ok l c a b m o x y

  -- a step that makes the call is the one with its answer
  step_one : (s : Step) (o : List LoadRecord) → Gives n l s.call s.answer o → (call : Call) → s.call ≡ call → (a : Answer call) (m : List LoadRecord) → Gives n l call a m → (s ≡ record { call = call; answer = a }) × (o ≡ m)
  step_one s o y call e = subst (λ (k : Call). (a : Answer k) (m : List LoadRecord) → Gives n l k a m → (s ≡ record { call = k; answer = a }) × (o ≡ m)) e same
    where
      same : (a : Answer s.call) (m : List LoadRecord) → Gives n l s.call a m → (s ≡ record { call = s.call; answer = a }) × (o ≡ m)
      same a m x =
          let one = gives_one s.call a s.answer m o x y in
          (ap (λ (b : Answer s.call). record { call = s.call; answer = b }) one.0, one.1)

-- Where a call and the calls after it have one run each, so have all of them.
module _ (n : Net) (ok : Conditions n) where
  no_calls : (l : List LoadRecord) (ss : List Step) (o : List LoadRecord) → map (λ (s : Step). s.call) ss ≡ [] → Run n l ss o → (ss ≡ []) × (o ≡ l)
  no_calls l [] o e ends = (refl, refl)
  no_calls l (s ∷ ss) o e r = absurd (cc)

  more_calls : (l m : List LoadRecord) (call : Call) (calls : List Call) (a : Answer call) → Gives n l call a m → (rest : OneRun n m calls) (ss : List Step) (o : List LoadRecord) → map (λ (s : Step). s.call) ss ≡ call ∷ calls → Run n l ss o → (ss ≡ record { call = call; answer = a } ∷ rest.steps) × (o ≡ rest.end)
  more_calls l m call calls a x rest [] o e r = absurd (cc)
  more_calls l m call calls a x rest (s ∷ ss) o e (next {m = m'} y r) =
      let first = step_one n ok l s m' y call (cc) a m x in
      let made : map (λ (s : Step). s.call) ss ≡ calls = cc in
      let after = rest.only ss o made (rw (← first.1) r) in
      (rw (first.0, after.0) refl, after.1)

  pub one_run : (l : List LoadRecord) (calls : List Call) → OneRun n l calls
  one_run l [] = record { steps = []; end = l; made = refl; run = ends; only = no_calls l }
  one_run l (call ∷ calls) =
      let x = answer n ok l call in
      let rest = one_run x.1 calls in
      record {
        steps = record { call = call; answer = x.0 } ∷ rest.steps;
        end = rest.end;
        made = ap (λ (cs : List Call). call ∷ cs) rest.made;
        run = next x.2 rest.run;
        only = more_calls l x.1 call calls x.0 x.2 rest;
      }
