-- A network has its routes once, and they do not show what the work area held.
use Rattle.std.proofs.Common.{◌≡◌, ℕ, ◌<◌, ◌≤◌, List, length, None, Ok, Err, Result, sym, ap, ◌∙◌, subst, arith}
use native.Mathlib.Decide.{dec_lt}
use Rattle.std.proofs.lemmas.Bool.Decides.{same_from_decides}
use Rattle.networks.specs.Allowed.{pairs}
use Rattle.networks.specs.Nets.{Net, Conditions}
use Rattle.networks.specs.Rooms.{first_short}
use Rattle.networks.specs.Secrecy.{Secret}
use Rattle.networks.specs.declared.faults.StudyFault.{StudyFault}
use Rattle.networks.proofs.Secrecy.{cleared_same, same_refusal, not_refused}
use Rattle.tracing.proofs.Secrecy.{one_table}
use Rattle.numbering.proofs.Secrecy.{same_answer, one_list}
use Rattle.routes.specs.Outcomes.{Routed, rooms, RoutesGive, Leaves}
use Rattle.routes.specs.declared.outcome.Routes.{Routes}

-- what is answered where the same numbers stand in the end, whatever they were written over
pub same_routes : {n : Net} {b c t l m ns : List ℕ} {a k : Routes} → Routed n b t l ns a → Routed n c t m ns k → pairs n ≤ length ns → a ≡ k
same_routes {a = a} {k} x y long = λ i. record { arriving = arriving i; held = held i }
  where
    arriving : a.arriving ≡ k.arriving
    arriving = same_from_decides a.arriving k.arriving x.arriving y.arriving

    held : a.held ≡ k.held
    held = x.numbered.2 ∙ ap (λ z. z.held) (same_answer x.numbered.1 y.numbered.1 long long) ∙ sym y.numbered.2

module _ {n : Net} (ok : Conditions n) where
  -- a number for each pair, where no buffer is too short
  long_enough : (allowed numbers w : ℕ) → first_short (rooms n allowed numbers w) ≡ None → pairs n ≤ numbers
  long_enough allowed numbers w e = go (dec_lt numbers (pairs n))
    where
      go : Dec (numbers < pairs n) → pairs n ≤ numbers
      go (no h) = omega (arith, h)
      go (yes h) = absurd (grind (arith, e, h))

  -- the routes that were written over the same buffers
  pub routed_one : {allowed numbers t u ns ms : List ℕ} {a k : Routes} → Routed n allowed t numbers ns a → Routed n allowed u numbers ms k → pairs n ≤ length numbers → length t ≡ length allowed → length u ≡ length allowed → length ns ≡ length numbers → length ms ≡ length numbers → (a ≡ k) × (t ≡ u) × (ns ≡ ms)
  routed_one {allowed} {numbers} {t} {u} {ns} {ms} {k = k} x y long tl ul nl ml = (same_routes x same_numbers (omega (arith, long, nl)), tables, lists)
    where
      tables : t ≡ u
      tables = one_table ok x.traced.1 y.traced.1 tl ul

      same_table : Routed n allowed t numbers ms k
      same_table = subst (λ (z : List ℕ). Routed n allowed z numbers ms k) (sym tables) y

      lists : ns ≡ ms
      lists = one_list x.numbered.1 same_table.numbered.1 nl ml

      same_numbers : Routed n allowed t numbers ns k
      same_numbers = subst (λ (z : List ℕ). Routed n allowed t numbers z k) (sym lists) same_table

  module _ (allowed numbers : List ℕ) where
    one : (w v : ℕ) → w ≡ v → (r q : Result Routes StudyFault) (t u ns ms : List ℕ) → length t ≡ length allowed → length u ≡ length allowed → length ns ≡ length numbers → length ms ≡ length numbers → RoutesGive n allowed numbers w r t ns → RoutesGive n allowed numbers v q u ms → (r ≡ q) × (t ≡ u) × (ns ≡ ms)
    one w v e (Ok a) (Ok k) t u ns ms tl ul nl ml (p, x) (q, y) =
        let same = routed_one x y (long_enough (length allowed) (length numbers) w p) tl ul nl ml in
        (ap Ok same.0, same.1, same.2)
    one w v e (Ok a) (Err g) t u ns ms tl ul nl ml (p, x) (b, q, d, o, o') = absurd (not_refused _ _ (ap (λ (k : ℕ). first_short (rooms n (length allowed) (length numbers) k)) e) b p q)
    one w v e (Err f) (Ok k) t u ns ms tl ul nl ml (b, p, d, o, o') (q, y) = absurd (not_refused _ _ (ap (λ (k : ℕ). first_short (rooms n (length allowed) (length numbers) k)) (sym e)) b q p)
    one w v e (Err f) (Err g) t u ns ms tl ul nl ml (b, p, d, o, o') (c, q, h, z, z') =
        (ap Err (same_refusal _ _ (ap (λ (k : ℕ). first_short (rooms n (length allowed) (length numbers) k)) e) b c f g p d q h), o ∙ sym z, o' ∙ sym z')

    pub routes_secret : Secret (Leaves n allowed numbers)
    routes_secret held other x y e p q =
        let same = one (length held) (length other) e x.answer y.answer x.allowed y.allowed x.numbers y.numbers p.bytes q.bytes p.each q.each p.routes q.routes in
        let work = cleared_same x.work y.work (p.words ∙ e ∙ sym q.words) p.cleared q.cleared in
        λ i. record { answer = same.0 i; allowed = same.1 i; numbers = same.2 i; work = work i }
