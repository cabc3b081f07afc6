-- Draining does not show what the work area held.
use Rattle.std.proofs.Common.{◌≡◌, ℕ, List, length, Option, Ok, Err, Result, slice_index, refl, sym, ap, ◌∙◌, subst}
use Rattle.networks.specs.Allowed.{said}
use Rattle.networks.specs.Nets.{Net, Conditions}
use Rattle.networks.specs.Rooms.{first_short}
use Rattle.networks.specs.Secrecy.{Secret}
use Rattle.networks.specs.declared.faults.Buffer.{Buffer}
use Rattle.networks.proofs.Secrecy.{cleared_same, same_refusal, not_refused}
use Rattle.tracing.proofs.Secrecy.{one_table}
use Rattle.numbering.specs.Outcomes.{Outcome}
use Rattle.numbering.proofs.Secrecy.{one_list}
use Rattle.escapes.specs.Escaping.{escape}
use Rattle.loads.specs.declared.LoadRecord.{LoadRecord}
use Rattle.checks.specs.Checks.{Judged, rooms}
use Rattle.checks.specs.declared.outcome.Verdict.{Verdict}
use Rattle.checks.specs.declared.outcome.Verdict.TheVariants as verdicts
use Rattle.checks.proofs.Single.{verdict_same}
use Rattle.drains.specs.Drains.{Drained, Filled, Drains, Leaves}
use Rattle.drains.specs.declared.faults.DrainFault.{DrainFault}
use Rattle.drains.specs.declared.faults.DrainFault.TheVariants.{Study, Blocked, NotAllowed}

module _ {n : Net} (ok : Conditions n) where
  -- what was filled over the same table and numbers
  module _ {allowed t u numbers ns ms : List ℕ} {v w : Verdict} (x : Filled n allowed t numbers ns v) (y : Filled n allowed u numbers ms w) (tl : length t ≡ length allowed) (ul : length u ≡ length allowed) (nl : length ns ≡ length numbers) (ml : length ms ≡ length numbers) where
    tables : t ≡ u
    tables = one_table ok x.traced.1 y.traced.1 tl ul

    other : Outcome (escape n (said t)) numbers ms (y).numbering
    other = subst (λ (z : List ℕ). Outcome (escape n (said z)) numbers ms y.numbering) (sym tables) y.numbered

    lists : ns ≡ ms
    lists = one_list x.numbered other nl ml

    one_verdict : v ≡ w
    one_verdict =
        verdict_same (escape n (said t)) (slice_index ns) (slice_index ms) (λ i l. ap (λ (z : List ℕ). slice_index z i) lists) v w x.judged (subst (λ (z : List ℕ). Judged w (escape n (said z)) (slice_index ms)) (sym tables) y.judged)

  module _ (allowed numbers : List ℕ) (load : List LoadRecord) where
    abbrev short_of : ℕ → Option Buffer
    short_of w = first_short (rooms n allowed numbers load w)

    -- one answer, and what then stands in the buffers
    record Same (r q : Result ℕ DrainFault) (t u ns ms : List ℕ) (l m : List LoadRecord) : Type 0 where
      answers : r ≡ q
      tables_same : t ≡ u
      numbers_same : ns ≡ ms
      loads : l ≡ m

    -- one drained load
    drained : (ns ms : List ℕ) → ns ≡ ms → (l m : List LoadRecord) (a k : ℕ) → Drained n (slice_index ns) load l a → Drained n (slice_index ms) load m k → (a ≡ k) × (l ≡ m)
    drained ns ms e l m a k x y =
        let z : Drained n (slice_index ns) load m k = subst (λ (o : List ℕ). Drained n (slice_index o) load m k) (sym e) y in
        let same = x.only z.steps m z.order z.emptied in
        (x.count ∙ ap length (sym same.0) ∙ sym z.count, sym same.1)

    free_or_blocked : verdicts.Free ≡ verdicts.Blocked → ⊥
    free_or_blocked e = cc

    module _ (w v : ℕ) (e : w ≡ v) (t u ns ms : List ℕ) (l m : List LoadRecord) (tl : length t ≡ length allowed) (ul : length u ≡ length allowed) (nl : length ns ≡ length numbers) (ml : length ms ≡ length numbers) where
      one : (r q : Result ℕ DrainFault) → Drains n allowed numbers load w r t ns l → Drains n allowed numbers load v q u ms m → Same r q t u ns ms l m
      one (Ok a) (Ok k) (p, x, may, f) (q, y, can, g) =
          let lists_same = lists x y tl ul nl ml in
          let d = drained ns ms lists_same l m a k f g in
          record { answers = ap Ok d.0; tables_same = tables x y tl ul nl ml; numbers_same = lists_same; loads = d.1 }
      one (Err Blocked) (Err Blocked) (p, x, o) (q, y, z) = record { answers = refl; tables_same = tables x y tl ul nl ml; numbers_same = lists x y tl ul nl ml; loads = o ∙ sym z }
      one (Err NotAllowed) (Err NotAllowed) (p, x, f, o) (q, y, g, z) = record { answers = refl; tables_same = tables x y tl ul nl ml; numbers_same = lists x y tl ul nl ml; loads = o ∙ sym z }
      one (Err (Study f)) (Err (Study g)) (b, p, d, a, i, o) (c, q, h, a', i', z) =
          record { answers = ap (λ k. Err (Study k)) (same_refusal _ _ (ap short_of e) b c f g p d q h); tables_same = a ∙ sym a'; numbers_same = i ∙ sym i'; loads = o ∙ sym z }
      one (Ok a) (Err (Study g)) (p, x, may, f) (b, q, d, _, _, _) = absurd (not_refused _ _ (ap short_of e) b p q)
      one (Err Blocked) (Err (Study g)) (p, x, o) (b, q, d, _, _, _) = absurd (not_refused _ _ (ap short_of e) b p q)
      one (Err NotAllowed) (Err (Study g)) (p, x, f, o) (b, q, d, _, _, _) = absurd (not_refused _ _ (ap short_of e) b p q)
      one (Err (Study f)) (Ok k) (b, p, d, _, _, _) (q, y, can, g) = absurd (not_refused _ _ (ap short_of (sym e)) b q p)
      one (Err (Study f)) (Err Blocked) (b, p, d, _, _, _) (q, y, o) = absurd (not_refused _ _ (ap short_of (sym e)) b q p)
      one (Err (Study f)) (Err NotAllowed) (b, p, d, _, _, _) (q, y, g, o) = absurd (not_refused _ _ (ap short_of (sym e)) b q p)
      one (Ok a) (Err Blocked) (p, x, may, f) (q, y, o) = absurd (free_or_blocked (one_verdict x y tl ul nl ml))
      one (Err NotAllowed) (Err Blocked) (p, x, f, z) (q, y, o) = absurd (free_or_blocked (one_verdict x y tl ul nl ml))
      one (Err Blocked) (Ok k) (p, x, o) (q, y, can, g) = absurd (free_or_blocked (sym (one_verdict x y tl ul nl ml)))
      one (Err Blocked) (Err NotAllowed) (p, x, o) (q, y, g, z) = absurd (free_or_blocked (sym (one_verdict x y tl ul nl ml)))
      one (Ok a) (Err NotAllowed) (p, x, may, f) (q, y, no_load, o) = absurd (no_load may)
      one (Err NotAllowed) (Ok k) (p, x, no_load, o) (q, y, can, g) = absurd (no_load can)

    pub drain_secret : Secret (Leaves n allowed numbers load)
    drain_secret held other x y e p q =
        let same = one (length held) (length other) e x.allowed y.allowed x.numbers y.numbers x.load y.load p.bytes q.bytes p.each q.each x.answer y.answer p.drains q.drains in
        let work = cleared_same x.work y.work (p.words ∙ e ∙ sym q.words) p.cleared q.cleared in
        λ i. record { answer = same.answers i; allowed = same.tables_same i; numbers = same.numbers_same i; load = same.loads i; work = work i }
