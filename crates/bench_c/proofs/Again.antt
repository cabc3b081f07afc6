-- A question that is asked again, with the buffers as the last answer left them, is answered as with those from before it.
use Rattle.std.proofs.Common.{◌≡◌, ℕ, ◌≤◌, cond, nat_lt, List, length, Option, Some, None, Ok, Err, Result, MatchResult, slice_index, ◌∙◌, arith}
use Rattle.std.specs.Prelude.{⊤}
use Rattle.std.proofs.lemmas.Bool.Decides.{nat_tests}
use Rattle.networks.specs.declared.faults.Buffer.{Buffer}
use Rattle.networks.specs.Allowed.{pairs}
use Rattle.networks.specs.Nets.{Net}
use Rattle.networks.specs.declared.faults.StudyFault.{StudyFault}
use Rattle.numbering.specs.Systems.{System}
use Rattle.numbering.specs.Outcomes.{Outcome}
use Rattle.numbering.specs.declared.Numbering.{Numbering}
use Rattle.tracing.specs.Traces.{Traced, Traces}
use Rattle.checks.specs.Checks.{Checks, Checked}
use Rattle.checks.specs.declared.outcome.Check.{Check}
use Rattle.loads.specs.declared.LoadRecord.{LoadRecord}
use Rattle.routes.specs.Outcomes.{Routed, RoutesGive}
use Rattle.routes.specs.declared.outcome.Routes.{Routes}

traced_again : {n : Net} {a b c : List ℕ} {k m : ℕ} → Traced n a b k → Traced n b c m → Traced n a c m
traced_again t u = grind arith

outcome_again : {s : System} {a b c : List ℕ} (y : Numbering) → ((k : ℕ) → s.items ≤ k → slice_index b k ≡ slice_index a k) → Outcome s b c y → Outcome s a c y
outcome_again y f o = grind arith

checked_again : {n : Net} {a b c i j k : List ℕ} {x y z : List LoadRecord} (p q : Check) → Checked n a b i j x y p → Checked n b c j k y z q → Checked n a c i k x z q
checked_again p q t u = grind (arith, outcome_again, traced_again)

routed_again : {n : Net} {a b c i j k : List ℕ} (p q : Routes) → Routed n a b i j p → Routed n b c j k q → Routed n a c i k q
routed_again p q t u = grind (arith, outcome_again, traced_again)

pub trace_again : (n : Net) (a b c : List ℕ) (w : ℕ) (r s : Result ℕ StudyFault) → length b ≡ length a → Traces n a w r b → Traces n b w s c → Traces n a w s c
trace_again n a b c w (Ok k) (Ok m) e t u = (t.0, traced_again t.1 u.1)
trace_again n a b c w (Ok k) (Err g) e t u = absurd (cc (e, t.0, u.1))
trace_again n a b c w (Err f) (Ok m) e t u = absurd (cc (e, t.1, u.0))
trace_again n a b c w (Err f) (Err g) e t u = (t.0, t.1, cc (e, t.1, u.1, u.2), u.3 ∙ t.3)

pub check_again : (n : Net) (a b c i j k : List ℕ) (x y z : List LoadRecord) (w v : ℕ) (r s : Result Check StudyFault) → length b ≡ length a → length j ≡ length i → length y ≡ length x → v ≡ w → Checks n a i x w r b j y → Checks n b j y v s c k z → Checks n a i x w s c k z
check_again n a b c i j k x y z w v (Ok p) (Ok q) e f g h t u = (t.0, checked_again p q t.1 u.1)
check_again n a b c i j k x y z w v (Ok p) (Err q) e f g h t u = absurd (cc (e, f, g, h, t.0, u.1))
check_again n a b c i j k x y z w v (Err p) (Ok q) e f g h t u = absurd (cc (e, f, g, h, t.1, u.0))
check_again n a b c i j k x y z w v (Err p) (Err q) e f g h t u = (t.0, t.1, cc (e, f, g, h, t.1, u.1, u.2), u.3 ∙ t.3, u.4 ∙ t.4, u.5 ∙ t.5)

pub routes_again : (n : Net) (a b c i j k : List ℕ) (w v : ℕ) (r s : Result Routes StudyFault) → length b ≡ length a → length j ≡ length i → v ≡ w → RoutesGive n a i w r b j → RoutesGive n b j v s c k → RoutesGive n a i w s c k
routes_again n a b c i j k w v (Ok p) (Ok q) e f g t u = (t.0, routed_again p q t.1 u.1)
routes_again n a b c i j k w v (Ok p) (Err q) e f g t u = absurd (cc (e, f, g, t.0, u.1))
routes_again n a b c i j k w v (Err p) (Ok q) e f g t u = absurd (cc (e, f, g, t.1, u.0))
routes_again n a b c i j k w v (Err p) (Err q) e f g t u = (t.0, t.1, cc (e, f, g, t.1, u.1, u.2), u.3 ∙ t.3, u.4 ∙ t.4)

-- Where a check answers, there are as many records as channels.
long_enough : (b : Buffer) (rest : Option Buffer) (given needed : ℕ) → cond (nat_lt given needed) (Some b) rest ≡ None → (needed ≤ given) × (rest ≡ None)
long_enough b rest given needed e = (grind (arith, nat_tests), grind (arith, nat_tests))

pub load_suffices : (n : Net) (a i b j : List ℕ) (x y : List LoadRecord) (w : ℕ) (r : Result Check StudyFault) → Checks n a i x w r b j y → MatchResult r (λ _. n.channels ≤ length x) (λ _. ⊤)
load_suffices n a i b j x y w (Ok p) t =
    let e = long_enough _ _ (length a) (pairs n) t.0 in
    let f = long_enough _ _ (length i) n.channels e.1 in
    (long_enough _ _ (length x) n.channels f.1).0
load_suffices n a i b j x y w (Err f) t = tt

-- and so there is room to tell of each channel, where the load is no longer than that room
pub stands_suffice : (n : Net) (a i b j : List ℕ) (x y : List LoadRecord) (w m k : ℕ) (r : Result Check StudyFault) → Checks n a i x w r b j y → m ≡ n.channels → length x ≤ k → MatchResult r (λ _. m ≤ k) (λ _. ⊤)
stands_suffice n a i b j x y w m k (Ok p) t e l = let f = load_suffices n a i b j x y w (Ok p) t in omega (arith, e, f, l)
stands_suffice n a i b j x y w m k (Err f) t e l = tt
