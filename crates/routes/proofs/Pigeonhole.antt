-- Of more numbers than there are values, two are the same.
use Rattle.std.proofs.Common.{◌≡◌, ◌≢◌, ℕ, zero, suc, ◌<◌, ◌≤◌, ◌⊎◌, inl, inr, sym, ◌∙◌, arith}
use Rattle.std.proofs.Math.Decide.{ℕ_discrete}

-- two of the numbers f 0 to f n are the same
abbrev pub Twice : (ℕ → ℕ) → ℕ → Type 0
Twice f n = (i j : ℕ) × (i < j) × (j ≤ n) × (f i ≡ f j)

-- whether one of the first m numbers is v
among : (f : ℕ → ℕ) (v m : ℕ) → ((i : ℕ) × (i < m) × (f i ≡ v)) ⊎ ((i : ℕ) → i < m → f i ≢ v)
among f v zero = inr (λ i l. absurd (omega arith))
among f v (suc m) = go (among f v m) (ℕ_discrete (f m) v)
  where
    go : ((i : ℕ) × (i < m) × (f i ≡ v)) ⊎ ((i : ℕ) → i < m → f i ≢ v) → Dec (f m ≡ v) → ((i : ℕ) × (i < suc m) × (f i ≡ v)) ⊎ ((i : ℕ) → i < suc m → f i ≢ v)
    go (inl x) e = inl (x.0, omega (arith, x.1), x.2)
    go (inr x) (yes e) = inl (m, omega arith, e)
    go (inr x) (no ne) = inr (λ i l. last i l (ℕ_discrete i m))
      where
        last : (i : ℕ) → i < suc m → Dec (i ≡ m) → f i ≢ v
        last i l (yes e) = rw e ne
        last i l (no k) = x i (omega arith)

-- the numbers with the value n put where the last one is not
instead : (f : ℕ → ℕ) (n v i : ℕ) → Dec (f i ≡ n) → ℕ
instead f n v i (yes e) = v
instead f n v i (no ne) = f i

pub pigeonhole : (n : ℕ) (f : ℕ → ℕ) → ((i : ℕ) → i ≤ n → f i < n) → Twice f n
unfolding instead
pigeonhole zero f below = let x = below 0 (omega arith) in absurd (omega arith)
pigeonhole (suc n) f below = go (among f (f (suc n)) (suc n)) (λ g. pigeonhole n g)
  where
    g : ℕ → ℕ
    g i = instead f n (f (suc n)) i (ℕ_discrete (f i) n)

    go : ((i : ℕ) × (i < suc n) × (f i ≡ f (suc n))) ⊎ ((i : ℕ) → i < suc n → f i ≢ f (suc n)) → ((h : ℕ → ℕ) → ((i : ℕ) → i ≤ n → h i < n) → Twice h n) → Twice f (suc n)
    go (inl x) again = (x.0, suc n, x.1, omega arith, x.2)
    go (inr other) again = found (again g (λ i l. less i l (ℕ_discrete (f i) n)))
      where
        less : (i : ℕ) → i ≤ n → (t : Dec (f i ≡ n)) → instead f n (f (suc n)) i t < n
        less i l (yes e) = let x = other i (omega arith) in let y = below (suc n) (omega arith) in omega arith
        less i l (no ne) = let y = below i (omega arith) in omega arith

        same : (i j : ℕ) → i ≤ n → j ≤ n → (s : Dec (f i ≡ n)) (t : Dec (f j ≡ n)) → instead f n (f (suc n)) i s ≡ instead f n (f (suc n)) j t → f i ≡ f j
        same i j l m (yes e) (yes h) x = e ∙ sym h
        same i j l m (yes e) (no h) x = absurd (other j (omega arith) (sym x))
        same i j l m (no e) (yes h) x = absurd (other i (omega arith) x)
        same i j l m (no e) (no h) x = x

        found : Twice g n → Twice f (suc n)
        found x = (x.0, x.1, x.2, omega (arith, x.3), same x.0 x.1 (omega (arith, x.2, x.3)) x.3 (ℕ_discrete (f x.0) n) (ℕ_discrete (f x.1) n) x.4)
