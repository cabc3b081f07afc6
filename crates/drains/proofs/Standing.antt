-- Whether the packets of a load are allowed, by the table of allowed pairs.
use Rattle.std.proofs.Common.{◌≡◌, ℕ, zero, suc, ◌+◌, ◌<◌, ◌≤◌, ◌↔◌, Bool, true, false, IsTrue, List, Some, None, Option, refl, sym, ◌∙◌, arith}
use native.Mathlib.Decide.{ℕ_discrete}
use Rattle.std.specs.List.{list_all, range_with_len}
use Rattle.std.proofs.lemmas.Bool.{and_parts, and_from}
use Rattle.networks.specs.Allowed.{listed, said}
use Rattle.networks.specs.Nets.{Net, Conditions}
use Rattle.tracing.specs.Traces.{Traced}
use Rattle.loads.specs.Loads.{packet, At, AllowedLoad}
use Rattle.loads.specs.declared.LoadRecord.{LoadRecord}
use Rattle.checks.proofs.Blocking.{listed_told, listed_allowed}
use Rattle.drains.specs.Emptying.{may_stand}

-- a test of all numbers of a range
passes_all : (test : ℕ → Bool) (a k : ℕ) → list_all test (range_with_len a k) ≡ true → (c : ℕ) → a ≤ c → c < a + k → test c ≡ true
passes_all test a zero all c l m = absurd (omega arith)
passes_all test a (suc k) all c l m = let x = and_parts (test a) (list_all test (range_with_len (a + 1) k)) all in go x.0 (passes_all test (a + 1) k x.1) (ℕ_discrete c a)
  where
    go : test a ≡ true → ((e : ℕ) → a + 1 ≤ e → e < a + 1 + k → test e ≡ true) → Dec (c ≡ a) → test c ≡ true
    go here rest (yes e) = rw e here
    go here rest (no ne) = rest c (omega (arith, ne)) (omega arith)

all_pass : (test : ℕ → Bool) (a k : ℕ) → ((c : ℕ) → a ≤ c → c < a + k → test c ≡ true) → list_all test (range_with_len a k) ≡ true
all_pass test a zero pass = refl
all_pass test a (suc k) pass =
    and_from (test a) (list_all test (range_with_len (a + 1) k)) (pass a (omega arith) (omega arith)) (all_pass test (a + 1) k (λ c l m. pass c (omega arith) (omega arith)))

-- what the tests of the channels come to
pub all_stand : (n : Net) (table : List ℕ) (load : List LoadRecord) (r : Bool) → r ≡ list_all (λ c. may_stand n table c (packet load c)) (range_with_len 0 n.channels) → IsTrue r ↔ ((c d : ℕ) → At n load c d → listed n (said table) c d ≡ true)
all_stand n table load r e = (
  λ t c d at. let pass = passes_all test 0 n.channels (sym e ∙ t) c (omega arith) (omega (arith, at.0)) in rw at.1 at pass,
  λ all. e ∙ all_pass test 0 n.channels (λ c _ l. stands c (omega arith) (λ d p. all c d (omega arith, p)) (packet load c) refl),
)
  where
    test : ℕ → Bool
    test c = may_stand n table c (packet load c)

    stands : (c : ℕ) → c < n.channels → ((d : ℕ) → packet load c ≡ Some d → listed n (said table) c d ≡ true) → (p : Option ℕ) → packet load c ≡ p → may_stand n table c (packet load c) ≡ true
    stands c l all None e = rw e refl
    stands c l all (Some d) e = rw e (all d e)

-- By the table that was traced these are the allowed loads.
module _ {n : Net} (ok : Conditions n) {before table : List ℕ} {ones : ℕ} (t : Traced n before table ones) where
  pub load_allowed : (load : List LoadRecord) (r : Bool) → IsTrue r ↔ ((c d : ℕ) → At n load c d → listed n (said table) c d ≡ true) → r ≡ true → AllowedLoad n load
  load_allowed load r tells is c d at = listed_told t c d (tells.0 is c d at)

  pub not_allowed : (load : List LoadRecord) (r : Bool) → IsTrue r ↔ ((c d : ℕ) → At n load c d → listed n (said table) c d ≡ true) → r ≡ false → AllowedLoad n load → ⊥
  not_allowed load r tells is allowed = let all = tells.1 (λ c d at. listed_allowed ok t c d (allowed c d at)) in cc (is, all)
