-- Tracing does not show what the work area held.
use Rattle.std.proofs.Common.{◌≡◌, ℕ, ◌/◌, ◌%◌, ◌<◌, List, length, take, count_by, nat_eq, Ok, Err, Result, slice_index, sym, ap, ◌∙◌, subst, arith}
use native.Mathlib.Decide.{dec_lt}
use Rattle.std.proofs.lemmas.List.{ext_get_or}
use Rattle.std.proofs.lemmas.Nat.{div-add-mod'}
use Rattle.networks.specs.Allowed.{Allowed, pairs}
use Rattle.networks.specs.Nets.{Net, Conditions}
use Rattle.networks.specs.Rooms.{first_short}
use Rattle.networks.specs.Secrecy.{Secret}
use Rattle.networks.specs.declared.faults.StudyFault.{StudyFault}
use Rattle.networks.proofs.Secrecy.{cleared_same, same_refusal, not_refused}
use Rattle.tracing.specs.Traces.{Traced, rooms, Traces, Leaves}
use Rattle.tracing.proofs.Positions.{channel_below, place_below}
use Rattle.tracing.proofs.Tables.{tells_one}

module _ {n : Net} (ok : Conditions n) where
  -- tables of the same pairs, whatever they were written over
  pub same_byte : {b t c u : List ℕ} {j k : ℕ} → Traced n b t j → Traced n c u k → (i : ℕ) → i < pairs n → slice_index t i ≡ slice_index u i
  same_byte {t = t} {u = u} x y i inside =
      let c = i / n.places in
      let d = i % n.places in
      let m = channel_below n ok i inside in
      let p = place_below n ok i in
      subst (λ (j : ℕ). slice_index t j ≡ slice_index u j) (div-add-mod' i n.places) (tells_one (Allowed n c d) _ _ (x.bytes c d m p) (y.bytes c d m p))

  -- tables that were written over the same one
  pub same_bytes : {b t u : List ℕ} {j k : ℕ} → Traced n b t j → Traced n b u k → (i : ℕ) → slice_index t i ≡ slice_index u i
  same_bytes {t = t} {u = u} x y i = go (dec_lt i (pairs n))
    where
      go : Dec (i < pairs n) → slice_index t i ≡ slice_index u i
      go (yes h) = same_byte x y i h
      go (no h) = x.beyond i (omega (arith, h)) ∙ sym (y.beyond i (omega (arith, h)))

  pub one_table : {b t u : List ℕ} {j k : ℕ} → Traced n b t j → Traced n b u k → length t ≡ length b → length u ≡ length b → t ≡ u
  one_table {t = t} {u = u} x y l m = ext_get_or 0 t u (l ∙ sym m) (λ i h. same_bytes x y i)

  one : (table : List ℕ) (w v : ℕ) → w ≡ v → (r s : Result ℕ StudyFault) (t u : List ℕ) → length t ≡ length table → length u ≡ length table → Traces n table w r t → Traces n table v s u → (r ≡ s) × (t ≡ u)
  one table w v e (Ok j) (Ok k) t u l m (p, x) (q, y) =
      let same = one_table x y l m in
      (ap Ok (x.count ∙ ap (λ (z : List ℕ). count_by (λ byte. nat_eq byte 1) (take (pairs n) z)) same ∙ sym y.count), same)
  one table w v e (Ok j) (Err g) t u l m (p, x) (b, s, d, o) = absurd (not_refused _ _ (ap (λ (k : ℕ). first_short (rooms n table k)) e) b p s)
  one table w v e (Err f) (Ok k) t u l m (b, s, d, o) (q, y) = absurd (not_refused _ _ (ap (λ (k : ℕ). first_short (rooms n table k)) (sym e)) b q s)
  one table w v e (Err f) (Err g) t u l m (b, s, d, o) (c, q, h, p) = (ap Err (same_refusal _ _ (ap (λ (k : ℕ). first_short (rooms n table k)) e) b c f g s d q h), o ∙ sym p)

  pub trace_secret : (table : List ℕ) → Secret (Leaves n table)
  trace_secret table held other x y e p q =
      let same = one table (length held) (length other) e x.answer y.answer x.table y.table p.bytes q.bytes p.traces q.traces in
      let work = cleared_same x.work y.work (p.words ∙ e ∙ sym q.words) p.cleared q.cleared in
      λ i. record { answer = same.0 i; table = same.1 i; work = work i }
