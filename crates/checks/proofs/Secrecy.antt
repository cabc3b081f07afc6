-- A check does not show what the work area held.
use Rattle.std.proofs.Common.{◌≡◌, ℕ, suc, ◌<◌, ◌≤◌, List, [], ◌∷◌, length, Option, option_and_then, None, Ok, Err, Result, refl, sym, ap, ◌∙◌, subst, arith}
use native.Mathlib.Decide.{dec_lt}
use Rattle.networks.specs.Allowed.{said}
use Rattle.networks.specs.Nets.{Net, Conditions}
use Rattle.networks.specs.Rooms.{first_short}
use Rattle.networks.specs.Secrecy.{Secret}
use Rattle.networks.specs.declared.faults.StudyFault.{StudyFault}
use Rattle.networks.proofs.Secrecy.{cleared_same, same_refusal, not_refused}
use Rattle.tracing.proofs.Secrecy.{one_table}
use Rattle.numbering.specs.Outcomes.{Outcome}
use Rattle.numbering.proofs.Secrecy.{one_list}
use Rattle.escapes.specs.Escaping.{escape}
use Rattle.loads.specs.Loads.{packet, packet_in}
use Rattle.loads.specs.declared.LoadRecord.{LoadRecord}
use Rattle.checks.specs.Checks.{Checked, rooms, Checks, Leaves}
use Rattle.checks.specs.declared.outcome.Check.{Check}
use Rattle.checks.proofs.Single.{one_check, SameCheck}

-- loads with the same packets
pub one_load : (l m : List LoadRecord) → length l ≡ length m → ((c : ℕ) → c < length l → packet l c ≡ packet m c) → l ≡ m
one_load [] [] e same = refl
one_load [] (r ∷ m) e same = absurd (omega arith)
one_load (r ∷ l) [] e same = absurd (omega arith)
one_load (r ∷ l) (q ∷ m) e same =
    let here : r.place ≡ q.place = same 0 (omega arith) in
    let first : r ≡ q = ap (λ (p : Option ℕ). record { place = p }) here in
    let rest = one_load l m (omega arith) (λ c i. same (suc c) (omega arith)) in
    cc

module _ {n : Net} (ok : Conditions n) where
  -- a number for each channel, where no buffer is too short
  long_enough : (allowed numbers : List ℕ) (load : List LoadRecord) (w : ℕ) → first_short (rooms n allowed numbers load w) ≡ None → n.channels ≤ length numbers
  long_enough allowed numbers load w e = go (dec_lt (length numbers) n.channels)
    where
      go : Dec (length numbers < n.channels) → n.channels ≤ length numbers
      go (no h) = omega (arith, h)
      go (yes h) = absurd (grind (arith, e, h))

  module _ (allowed numbers : List ℕ) (load : List LoadRecord) where
    -- one check of what was written over the same buffers
    module _ (t u ns ms : List ℕ) (l m : List LoadRecord) (a k : Check) (x : Checked n allowed t numbers ns load l a) (y : Checked n allowed u numbers ms load m k) where
      pub checked_one : n.channels ≤ length numbers → length t ≡ length allowed → length u ≡ length allowed → length ns ≡ length numbers → length ms ≡ length numbers → length l ≡ length load → length m ≡ length load → (a ≡ k) × (t ≡ u) × (ns ≡ ms) × (l ≡ m)
      checked_one long t_long u_long ns_long ms_long l_long m_long = (same.answers, tables, one_list x.numbered other ns_long ms_long, one_load l m (l_long ∙ sym m_long) packets)
        where
          same : SameCheck n ns ms l m a k
          same = one_check n ok allowed t numbers ns allowed u numbers ms load l load m a k (omega (arith, long, ns_long)) (omega (arith, long, ms_long)) x y

          tables : t ≡ u
          tables = one_table ok x.traced.1 y.traced.1 t_long u_long

          other : Outcome (escape n (said t)) numbers ms k.numbering
          other = subst (λ (z : List ℕ). Outcome (escape n (said z)) numbers ms k.numbering) (sym tables) y.numbered

          packets : (c : ℕ) → c < length l → packet l c ≡ packet m c
          packets c h = go (dec_lt c n.channels)
            where
              go : Dec (c < n.channels) → packet l c ≡ packet m c
              go (yes i) = same.packets c i
              go (no i) = ap (option_and_then packet_in) (x.beyond c (omega (arith, i)) ∙ sym (y.beyond c (omega (arith, i))))

    one : (w v : ℕ) → w ≡ v → (r q : Result Check StudyFault) (t u ns ms : List ℕ) (l m : List LoadRecord) → length t ≡ length allowed → length u ≡ length allowed → length ns ≡ length numbers → length ms ≡ length numbers → length l ≡ length load → length m ≡ length load → Checks n allowed numbers load w r t ns l → Checks n allowed numbers load v q u ms m → (r ≡ q) × (t ≡ u) × (ns ≡ ms) × (l ≡ m)
    one w v e (Ok a) (Ok k) t u ns ms l m tl ul nl ml ll ol (p, x) (q, y) =
        let same = checked_one t u ns ms l m a k x y (long_enough allowed numbers load w p) tl ul nl ml ll ol in
        (ap Ok same.0, same.1, same.2, same.3)
    one w v e (Ok a) (Err g) t u ns ms l m tl ul nl ml ll ol (p, x) (b, q, d, o, o', o'') = absurd (not_refused _ _ (ap (λ (k : ℕ). first_short (rooms n allowed numbers load k)) e) b p q)
    one w v e (Err f) (Ok k) t u ns ms l m tl ul nl ml ll ol (b, p, d, o, o', o'') (q, y) = absurd (not_refused _ _ (ap (λ (k : ℕ). first_short (rooms n allowed numbers load k)) (sym e)) b q p)
    one w v e (Err f) (Err g) t u ns ms l m tl ul nl ml ll ol (b, p, d, o, o', o'') (c, q, h, z, z', z'') =
        (ap Err (same_refusal _ _ (ap (λ (k : ℕ). first_short (rooms n allowed numbers load k)) e) b c f g p d q h), o ∙ sym z, o' ∙ sym z', o'' ∙ sym z'')

    pub check_secret : Secret (Leaves n allowed numbers load)
    check_secret held other x y e p q =
        let same = one (length held) (length other) e x.answer y.answer x.allowed y.allowed x.numbers y.numbers x.load y.load p.bytes q.bytes p.each q.each p.records q.records p.checks q.checks in
        let work = cleared_same x.work y.work (p.words ∙ e ∙ sym q.words) p.cleared q.cleared in
        λ i. record { answer = same.0 i; allowed = same.1 i; numbers = same.2 i; load = same.3 i; work = work i }
