-- Judgements do not show what the work area held.
use Rattle.std.proofs.Common.{◌≡◌, ℕ, List, length, Option, Ok, Err, Result, sym, ap, ◌∙◌}
use Rattle.networks.specs.Nets.{Net, Conditions}
use Rattle.networks.specs.Rooms.{first_short}
use Rattle.networks.specs.Secrecy.{Secret}
use Rattle.networks.specs.declared.faults.Buffer.{Buffer}
use Rattle.networks.specs.declared.faults.Buffer.TheVariants as buffer
use Rattle.networks.specs.declared.faults.StudyFault.{StudyFault}
use Rattle.networks.proofs.Secrecy.{cleared_same, same_refusal, not_refused}
use Rattle.tracing.specs.Traces.{Traced}
use Rattle.tracing.proofs.Secrecy.{one_table}
use Rattle.loads.specs.declared.LoadRecord.{LoadRecord}
use Rattle.judges.specs.Judges.{rooms, LeavesOfNumbers, LeavesOfLoad, JudgesNumbers, JudgesLoad}
use Rattle.judges.specs.declared.LoadJudged.{LoadJudged}
use Rattle.judges.specs.declared.NumbersJudged.{NumbersJudged}

module _ {n : Net} (ok : Conditions n) (allowed : List ℕ) where
  -- one table where tracing filled it
  one : {t u : List ℕ} → ((ones : ℕ) × Traced n allowed t ones) → ((ones : ℕ) × Traced n allowed u ones) → length t ≡ length allowed → length u ≡ length allowed → t ≡ u
  one x y = one_table ok x.1 y.1

  module _ (numbers : List ℕ) where
    abbrev numbers_short : ℕ → Option Buffer
    numbers_short w = first_short (rooms n (length allowed) buffer.Numbers (length numbers) w)

    one_of_numbers : (w v : ℕ) → w ≡ v → (r q : Result NumbersJudged StudyFault) (t u : List ℕ) → length t ≡ length allowed → length u ≡ length allowed → JudgesNumbers n allowed numbers w r t → JudgesNumbers n allowed numbers v q u → (r ≡ q) × (t ≡ u)
    one_of_numbers w v e (Ok a) (Ok k) t u tl ul (p, x) (q, y) = (ap Ok (y.judged.only a x.judged.holds), one x.traced y.traced tl ul)
    one_of_numbers w v e (Ok a) (Err g) t u tl ul (p, x) (b, q, d, o) = absurd (not_refused _ _ (ap numbers_short e) b p q)
    one_of_numbers w v e (Err f) (Ok k) t u tl ul (b, p, d, o) (q, y) = absurd (not_refused _ _ (ap numbers_short (sym e)) b q p)
    one_of_numbers w v e (Err f) (Err g) t u tl ul (b, p, d, o) (c, q, h, z) = (ap Err (same_refusal _ _ (ap numbers_short e) b c f g p d q h), o ∙ sym z)

    pub numbers_secret : Secret (LeavesOfNumbers n allowed numbers)
    numbers_secret held other x y e p q =
        let same = one_of_numbers (length held) (length other) e x.answer y.answer x.allowed y.allowed p.bytes q.bytes p.judges q.judges in
        let work = cleared_same x.work y.work (p.words ∙ e ∙ sym q.words) p.cleared q.cleared in
        λ i. record { answer = same.0 i; allowed = same.1 i; work = work i }

  module _ (load : List LoadRecord) where
    abbrev load_short : ℕ → Option Buffer
    load_short w = first_short (rooms n (length allowed) buffer.Load (length load) w)

    one_of_load : (w v : ℕ) → w ≡ v → (r q : Result LoadJudged StudyFault) (t u : List ℕ) → length t ≡ length allowed → length u ≡ length allowed → JudgesLoad n allowed load w r t → JudgesLoad n allowed load v q u → (r ≡ q) × (t ≡ u)
    one_of_load w v e (Ok a) (Ok k) t u tl ul (p, x) (q, y) = (ap Ok (y.judged.only a x.judged.holds), one x.traced y.traced tl ul)
    one_of_load w v e (Ok a) (Err g) t u tl ul (p, x) (b, q, d, o) = absurd (not_refused _ _ (ap load_short e) b p q)
    one_of_load w v e (Err f) (Ok k) t u tl ul (b, p, d, o) (q, y) = absurd (not_refused _ _ (ap load_short (sym e)) b q p)
    one_of_load w v e (Err f) (Err g) t u tl ul (b, p, d, o) (c, q, h, z) = (ap Err (same_refusal _ _ (ap load_short e) b c f g p d q h), o ∙ sym z)

    pub load_secret : Secret (LeavesOfLoad n allowed load)
    load_secret held other x y e p q =
        let same = one_of_load (length held) (length other) e x.answer y.answer x.allowed y.allowed p.bytes q.bytes p.judges q.judges in
        let work = cleared_same x.work y.work (p.words ∙ e ∙ sym q.words) p.cleared q.cleared in
        λ i. record { answer = same.0 i; allowed = same.1 i; work = work i }
