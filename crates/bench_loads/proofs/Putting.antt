-- Puts one after the other, as a run.
use Rattle.std.proofs.Common.{◌≡◌, ℕ, suc, ◌+◌, true, false, ◌<◌, List, [], ◌∷◌, ◌++◌, Result, length, map, count_by, cond, get_or, take, ap, sym, refl, ◌∙◌, arith}
use Rattle.std.specs.Prelude.{⊤, is_ok, sum_by}
use Rattle.std.proofs.Math.Seq.{take-suc}
use Rattle.std.proofs.lemmas.List.{map-append}
use Rattle.std.proofs.lemmas.List.Sums.{sum_by-append}
use Rattle.networks.specs.Nets.{Net}
use Rattle.loads.specs.Calls.{Puts}
use Rattle.loads.specs.Runs.{Call, Put, Step, Run, Gives, ends, next, accepted}
use Rattle.loads.specs.declared.LoadRecord.{LoadRecord}
use Rattle.loads.specs.declared.faults.LoadFault.{LoadFault}
use Rattle.crossings.specs.declared.PairWords.{PairWords}
use Rattle.bench_loads.specs.Told.{PutEach}

run_on : {n : Net} {l m o : List LoadRecord} {ss : List Step} → Run n l ss m → (s : Step) → Gives n m s.call s.answer o → Run n l (ss ++ (s ∷ [])) o
run_on ends s g = next g ends
run_on (next h r) s g = next h (run_on r s g)

abbrev call_of : Step → Call
call_of s = s.call

abbrev put_of : PairWords → Call
put_of p = Put p.channel p.place

abbrev taken : Step → ℕ
taken s = cond (accepted s.call s.answer) 1 0

module _ (n : Net) where
  pub puts_none : (l : List LoadRecord) → PutEach n [] l l 0
  puts_none l = record { steps = []; made = refl; run = ends; count_is = refl }

  puts_more : (ps : List PairWords) (i : ℕ) (d : PairWords) (l m o : List LoadRecord) (k k' : ℕ) (r : Result ⊤ LoadFault) → i < length ps → PutEach n (take i ps) l m k → Puts n m (get_or ps i d).channel (get_or ps i d).place r o → k' ≡ k + cond (is_ok r) 1 0 → PutEach n (take (i + 1) ps) l o k'
  puts_more ps i d l m o k k' r lt x g e =
      let p = get_or ps i d in
      let s : Step = record { call = Put p.channel p.place; answer = r } in
      let after : i + 1 ≡ suc i = omega arith in
      let c : count_by (λ (s : Step). accepted s.call s.answer) (x.steps ++ (s ∷ [])) ≡ count_by (λ (s : Step). accepted s.call s.answer) x.steps + sum_by taken (s ∷ []) = sum_by-append taken x.steps (s ∷ []) in
      let one : sum_by taken (s ∷ []) ≡ 0 + cond (is_ok r) 1 0 = refl in
      record {
        steps = x.steps ++ (s ∷ []);
        made = map-append call_of x.steps (s ∷ []) ∙ ap (λ (cs : List Call). cs ++ (Put p.channel p.place ∷ [])) x.made ∙ sym (ap (λ (qs : List PairWords). map put_of qs) (ap (λ (j : ℕ). take j ps) after ∙ take-suc ps i d lt) ∙ map-append put_of (take i ps) (p ∷ []));
        run = run_on x.run s g;
        count_is = omega (arith, c, one, x.count_is, e);
      }

  pub puts_accepted : (ps : List PairWords) (i : ℕ) (d : PairWords) (l m o : List LoadRecord) (k k' : ℕ) (r : Result ⊤ LoadFault) → i < length ps → PutEach n (take i ps) l m k → Puts n m (get_or ps i d).channel (get_or ps i d).place r o → is_ok r ≡ true → k' ≡ k + 1 → PutEach n (take (i + 1) ps) l o k'
  puts_accepted ps i d l m o k k' r lt x g t e = puts_more ps i d l m o k k' r lt x g (rw t e)

  pub puts_refused : (ps : List PairWords) (i : ℕ) (d : PairWords) (l m o : List LoadRecord) (k k' : ℕ) (r : Result ⊤ LoadFault) → i < length ps → PutEach n (take i ps) l m k → Puts n m (get_or ps i d).channel (get_or ps i d).place r o → is_ok r ≡ false → k' ≡ k → PutEach n (take (i + 1) ps) l o k'
  puts_refused ps i d l m o k k' r lt x g f e = puts_more ps i d l m o k k' r lt x g (rw f (omega (arith, e)))
