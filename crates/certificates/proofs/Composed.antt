-- A check and the routes of one network, one after the other in the same table.
use Rattle.std.proofs.Common.{◌≡◌, ℕ, List, slice_index, ◌∙◌, subst}
use Rattle.networks.specs.Allowed.{said}
use Rattle.networks.specs.Nets.{Net}
use Rattle.numbering.specs.Systems.{System}
use Rattle.numbering.specs.Outcomes.{Outcome}
use Rattle.tracing.specs.Traces.{Traced}
use Rattle.escapes.specs.Escaping.{escape}
use Rattle.loads.specs.declared.LoadRecord.{LoadRecord}
use Rattle.checks.specs.Checks.{Ours, Judged, Checked}
use Rattle.checks.specs.declared.outcome.Check.{Check}
use Rattle.checks.proofs.Single.{escape_same}
use Rattle.routes.specs.Outcomes.{Routed}
use Rattle.routes.specs.declared.outcome.Routes.{Routes}

module _ {n : Net} {before table after : List ℕ} where
  -- tracing twice is tracing once
  traced_twice : {ones ones' : ℕ} → Traced n before table ones → Traced n table after ones' → Traced n before after ones'
  traced_twice t u = record { bytes = u.bytes; beyond = λ k l. u.beyond k l ∙ t.beyond k l; count = u.count }

  module _ {numbers numbers' : List ℕ} {load load' : List LoadRecord} {a : Check} (c : Checked n before table numbers numbers' load load' a) where
    -- the check is that of the table which was traced again
    pub checked_again : {ones : ℕ} → Traced n table after ones → Checked n before after numbers numbers' load load' a
    checked_again {ones} u = record {
      traced = (ones, traced_twice c.traced.1 u);
      numbered = subst (λ (s : System). Outcome s numbers numbers' a.numbering) same c.numbered;
      verdict = subst (λ (s : System). Judged a.verdict s (slice_index numbers')) same c.verdict;
      ours = subst (λ (s : System). Ours s (slice_index numbers') load') same c.ours;
      beyond = c.beyond;
      none_blocked = c.none_blocked;
      blocked = c.blocked;
    }
      where
        same : escape n (said table) ≡ escape n (said after)
        same = escape_same n before table table after c.traced.0 ones c.traced.1 u

    -- and the routes are those from the table that was there before the check
    pub routed_from_before : {longest longest' : List ℕ} {b : Routes} → Routed n table after longest longest' b → Routed n before after longest longest' b
    routed_from_before r = record {
      traced = (r.traced.0, traced_twice c.traced.1 r.traced.1);
      numbered = r.numbered;
      longest = r.longest;
      one_longest = r.one_longest;
      unreached = r.unreached;
      endless = r.endless;
      ends = r.ends;
      limits = r.limits;
      arriving = r.arriving;
    }
