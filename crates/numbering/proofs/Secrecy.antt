-- A system has one numbering, which does not show what the work area held.
use Rattle.std.proofs.Common.{◌≡◌, ℕ, ◌<◌, ◌≤◌, ◌⊎◌, List, length, take, count_by, nat_eq, None, Ok, Err, Result, slice_index, inl, inr, sym, ap, ◌∙◌, arith}
use native.Mathlib.Decide.{dec_lt}
use Rattle.std.proofs.lemmas.List.{ext_get_or, get_or-take, length-take-le}
use Rattle.networks.specs.Rooms.{first_short}
use Rattle.networks.specs.Secrecy.{Secret}
use Rattle.networks.specs.declared.faults.StudyFault.{StudyFault}
use Rattle.networks.proofs.Secrecy.{cleared_same, same_refusal, not_refused}
use Rattle.numbering.specs.Systems.{System}
use Rattle.numbering.specs.Numbers.{held_number}
use Rattle.numbering.specs.Outcomes.{Greatest, count_held, Outcome, rooms, Numbers, Leaves}
use Rattle.numbering.specs.declared.Numbering.{Numbering}

-- there is one greatest number
greatest_below : (s : System) (f g : ℕ → ℕ) → ((i : ℕ) → i < s.items → f i ≡ g i) → (m k : ℕ) → Greatest s f m → Greatest s g k → m ≤ k
greatest_below s f g same m k x y = go x.given
  where
    go : (m ≡ 0) ⊎ ((i : ℕ) × (i < s.items) × (f i ≡ held_number → ⊥) × (f i ≡ m)) → m ≤ k
    go (inl z) = omega (arith, z)
    go (inr (i, l, ne, e)) = let z = y.none_above i l (λ q. ne (same i l ∙ q)) in omega (arith, z, same i l, e)

greatest_same : (s : System) (f g : ℕ → ℕ) → ((i : ℕ) → i < s.items → f i ≡ g i) → (m k : ℕ) → Greatest s f m → Greatest s g k → m ≡ k
greatest_same s f g same m k x y =
    let p = greatest_below s f g same m k x y in
    let q = greatest_below s g f (λ i l. sym (same i l)) k m y x in
    omega (arith, p, q)

count_same : (n : ℕ) (xs ys : List ℕ) → n ≤ length xs → n ≤ length ys → ((i : ℕ) → i < n → slice_index xs i ≡ slice_index ys i) → count_held n xs ≡ count_held n ys
count_same n xs ys l m same = ap (count_by (λ word. nat_eq word held_number)) (ext_get_or 0 (take n xs) (take n ys) (length-take-le n xs l ∙ sym (length-take-le n ys m)) (λ i h. let k : i < n = omega (arith, h, length-take-le n xs l) in get_or-take n xs i 0 k ∙ same i k ∙ sym (get_or-take n ys i 0 k)))

-- what is answered of a system, whatever the numbers were written over
pub same_answer : {s : System} {b t c u : List ℕ} {a k : Numbering} → Outcome s b t a → Outcome s c u k → s.items ≤ length t → s.items ≤ length u → a ≡ k
same_answer {s} {t = t} {u = u} {a} {k} x y long long' = λ i. record { greatest = greatest i; held = held i }
  where
    same : (i : ℕ) → i < s.items → slice_index t i ≡ slice_index u i
    same i l = sym (x.only (slice_index u) y.all i l)

    greatest : a.greatest ≡ k.greatest
    greatest = greatest_same s (slice_index t) (slice_index u) same a.greatest k.greatest x.greatest y.greatest

    held : a.held ≡ k.held
    held = x.held ∙ count_same s.items t u long long' same ∙ sym y.held

-- the numbers that were written over the same ones
pub one_list : {s : System} {b t u : List ℕ} {a k : Numbering} → Outcome s b t a → Outcome s b u k → length t ≡ length b → length u ≡ length b → t ≡ u
one_list {s} {t = t} {u = u} x y l m = ext_get_or 0 t u (l ∙ sym m) (λ i h. go i (dec_lt i s.items))
  where
    go : (i : ℕ) → Dec (i < s.items) → slice_index t i ≡ slice_index u i
    go i (yes h) = sym (x.only (slice_index u) y.all i h)
    go i (no h) = x.beyond i (omega (arith, h)) ∙ sym (y.beyond i (omega (arith, h)))

module _ (s : System) where
  -- as long as there are items, where no buffer is too short
  long_enough : (n w : ℕ) → first_short (rooms s n w) ≡ None → s.items ≤ n
  long_enough n w e = go (dec_lt n s.items)
    where
      go : Dec (n < s.items) → s.items ≤ n
      go (no h) = omega (arith, h)
      go (yes h) = absurd (grind (arith, e, h))

  one : (before : List ℕ) (w v : ℕ) → w ≡ v → (r q : Result Numbering StudyFault) (t u : List ℕ) → length t ≡ length before → length u ≡ length before → Numbers s before w r t → Numbers s before v q u → (r ≡ q) × (t ≡ u)
  one before w v e (Ok a) (Ok k) t u l m (p, x) (q, y) =
      let long = long_enough (length before) w p in
      (ap Ok (same_answer x y (omega (arith, long, l)) (omega (arith, long, m))), one_list x y l m)
  one before w v e (Ok a) (Err g) t u l m (p, x) (b, q, d, o) = absurd (not_refused _ _ (ap (λ (k : ℕ). first_short (rooms s (length before) k)) e) b p q)
  one before w v e (Err f) (Ok k) t u l m (b, p, d, o) (q, y) = absurd (not_refused _ _ (ap (λ (k : ℕ). first_short (rooms s (length before) k)) (sym e)) b q p)
  one before w v e (Err f) (Err g) t u l m (b, p, d, o) (c, q, h, o') =
      (ap Err (same_refusal _ _ (ap (λ (k : ℕ). first_short (rooms s (length before) k)) e) b c f g p d q h), o ∙ sym o')

  pub number_secret : (numbers : List ℕ) → Secret (Leaves s numbers)
  number_secret numbers held other x y e p q =
      let same = one numbers (length held) (length other) e x.answer y.answer x.numbers y.numbers p.each q.each p.numbering q.numbering in
      let work = cleared_same x.work y.work (p.words ∙ e ∙ sym q.words) p.cleared q.cleared in
      λ i. record { answer = same.0 i; numbers = same.1 i; work = work i }
