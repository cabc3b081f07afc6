-- A size and records make a table or have one fault, and never both.
use Rattle.std.proofs.Common.{◌≡◌, ℕ, ◌+◌, ◌<◌, ◌&&◌, eqb, ◌⊎◌, List, [], ◌∷◌, ◌++◌, length, Ok, Err, Result, sym, refl, ap, ◌∙◌, subst, inl, inr, arith}
use Rattle.std.proofs.lemmas.List.{length-append}
use Rattle.std.proofs.lemmas.Bool.{cases_order, eq-eqb, and_from, cond-true}
use Rattle.std.proofs.lemmas.Grind.{flat_map-append}
use Rattle.std.specs.List.{flat_map, AllByRecursion}
use Rattle.records.specs.declared.Record.{Record}
use Rattle.records.specs.declared.Record.TheVariants.{Entry, Home, Way}
use Rattle.records.specs.declared.Size.{Size}
use Rattle.networks.specs.declared.faults.TableFault.{TableFault}
use Rattle.networks.specs.declared.faults.TableFault.TheVariants.{OutOfRange, NoMemory}
use Rattle.networks.specs.Nets.{Net}
use Rattle.tables.specs.declared.table.Table.{Table}
use Rattle.tables.specs.Drawn.{drawn, way_by}
use Rattle.tables.specs.Makes.{SizeFits, SizeMisfit, channels, places, Within, Full, FirstOutside, Misfit, outside, ninth, Takes, Fit, Acceptable, RecordsFault, size, first, many, OneFault, Begins, Adds, Makes, SameMade, OneMaking}
use Rattle.tables.proofs.ByRecord.{fit_none}

-- two ways to part a list at an element
pub data Parted {X : Type 0} (xs ys : List X) (x y : X) (xr yr : List X) : Type 0 where
  same : xs ≡ ys → x ≡ y → xr ≡ yr → Parted xs ys x y xr yr
  before : (m : List X) → ys ≡ xs ++ (x ∷ m) → Parted xs ys x y xr yr
  after : (m : List X) → xs ≡ ys ++ (y ∷ m) → Parted xs ys x y xr yr

pub parted : {X : Type 0} (xs ys : List X) (x y : X) (xr yr : List X) → xs ++ (x ∷ xr) ≡ ys ++ (y ∷ yr) → Parted xs ys x y xr yr
parted [] [] x y xr yr e = same refl (cc) (cc)
parted [] (b ∷ ys) x y xr yr e = before ys (let h : x ≡ b = cc in ap (λ z. z ∷ ys) (sym h))
parted (a ∷ xs) [] x y xr yr e = after xs (let h : a ≡ y = cc in ap (λ z. z ∷ xs) h)
parted {X} (a ∷ xs) (b ∷ ys) x y xr yr e = more (parted xs ys x y xr yr t)
  where
    h : a ≡ b
    h = cc

    t : xs ++ (x ∷ xr) ≡ ys ++ (y ∷ yr)
    t = cc

    more : Parted xs ys x y xr yr → Parted (a ∷ xs) (b ∷ ys) x y xr yr
    more (same p q r) = same (cc) q r
    more (before m p) = before m (cc)
    more (after m p) = after m (cc)

pub all_middle : {X : Type 0} (P : X → Type 0) (xs : List X) (x : X) (ys : List X) → AllByRecursion P (xs ++ (x ∷ ys)) → P x
all_middle P [] x ys h = h.0
all_middle P (a ∷ xs) x ys h = all_middle P xs x ys h.1

-- a record of records that fit fits behind those before it
way_counts : (s : Size) (good rest : List Record) (bad : Record) → Full (drawn s good) bad → Fit s (good ++ (bad ∷ rest)) → ⊥
way_counts s good rest (Entry a b) full fit = full
way_counts s good rest (Home a b) full fit = full
way_counts s good rest (Way a b h) full fit =
    let f : Record → List ℕ = λ r. way_by r a b in
    let e = ap length (flat_map-append f good (Way a b h ∷ rest)) in
    let l = length-append (flat_map f good) (flat_map f (Way a b h ∷ rest)) in
    let one = cond-true (eqb a a && eqb b b) (h ∷ []) [] (and_from (eqb a a) (eqb b b) (eq-eqb a a refl) (eq-eqb b b refl)) in
    let m = length-append (f (Way a b h)) (flat_map f rest) in
    omega (arith, fit.few a b, ap length one)

pub fit_takes : (s : Size) (good rest : List Record) (bad : Record) → Fit s (good ++ (bad ∷ rest)) → Takes (drawn s good) bad
fit_takes s good rest bad fit = record { within = all_middle (Within (drawn s good)) good bad rest fit.within; room = λ full. way_counts s good rest bad full fit }

pub takes_or_misfit : (n : Net) (line : ℕ) (r : Record) (f : TableFault) → Takes n r → Misfit n line r f → ⊥
takes_or_misfit n line r f t (outside i x e) = x.outside (t.within x.at x.there)
takes_or_misfit n line r f t (ninth w full e) = t.room full

first_outside_one : (n : Net) (r : Record) (i j : ℕ) → FirstOutside n r i → FirstOutside n r j → i ≡ j
first_outside_one n r i j x y = go (cases_order x.at y.at)
  where
    go : (x.at ≡ y.at) ⊎ ((x.at < y.at) ⊎ (y.at < x.at)) → i ≡ j
    go (inl e) = x.field ∙ ap (λ k. k + 2) e ∙ sym y.field
    go (inr (inl l)) = absurd (x.outside (y.before x.at l))
    go (inr (inr l)) = absurd (y.outside (x.before y.at l))

pub misfit_one : (n : Net) (line : ℕ) (r : Record) (f g : TableFault) → Misfit n line r f → Misfit n line r g → f ≡ g
misfit_one n line r f g (outside i x e) (outside j y d) = e ∙ ap (λ k. OutOfRange line k) (first_outside_one n r i j x y) ∙ sym d
misfit_one n line r f g (outside i x e) (ninth w full d) = absurd (x.outside (w x.at x.there))
misfit_one n line r f g (ninth w full d) (outside i x e) = absurd (x.outside (w x.at x.there))
misfit_one n line r f g (ninth w full d) (ninth w' full' d') = d ∙ sym d'

pub size_or_misfit : (s : Size) (f : TableFault) → SizeFits s → SizeMisfit s f → ⊥
size_or_misfit s f fits (channels x e) = x (fits.some_channel, fits.few_channels)
size_or_misfit s f fits (places a b x e) = x (fits.some_place, fits.few_places)

pub size_misfit_one : (s : Size) (f g : TableFault) → SizeMisfit s f → SizeMisfit s g → f ≡ g
size_misfit_one s f g (channels x e) (channels y d) = e ∙ sym d
size_misfit_one s f g (channels x e) (places a b y d) = absurd (x (a, b))
size_misfit_one s f g (places a b y d) (channels x e) = absurd (x (a, b))
size_misfit_one s f g (places a b x e) (places a' b' y d) = e ∙ sym d

fit_or_first : (s : Size) (rs good rest : List Record) (bad : Record) (line : ℕ) (f : TableFault) → Fit s rs → rs ≡ good ++ (bad ∷ rest) → Misfit (drawn s good) line bad f → ⊥
fit_or_first s rs good rest bad line f fit e m = takes_or_misfit (drawn s good) line bad f (fit_takes s good rest bad (subst (Fit s) e fit)) m

first_one : (s : Size) (good good' rest rest' : List Record) (bad bad' : Record) (f g : TableFault) → good ++ (bad ∷ rest) ≡ good' ++ (bad' ∷ rest') → Fit s good → Fit s good' → Misfit (drawn s good) (length good + 2) bad f → Misfit (drawn s good') (length good' + 2) bad' g → f ≡ g
first_one s good good' rest rest' bad bad' f g e h h' x y = go (parted good good' bad bad' rest rest' e)
  where
    go : Parted good good' bad bad' rest rest' → f ≡ g
    go (same p q r) =
        let z : Misfit (drawn s good) (length good + 2) bad g = subst (λ (b : Record). Misfit (drawn s good) (length good + 2) b g) (sym q) (subst (λ (gs : List Record). Misfit (drawn s gs) (length gs + 2) bad' g) (sym p) y) in
        misfit_one (drawn s good) (length good + 2) bad f g x z
    go (before m p) = absurd (fit_or_first s good' good m bad (length good + 2) f h' p x)
    go (after m p) = absurd (fit_or_first s good good' m bad' (length good' + 2) g h p y)

one_records_fault : (s : Size) (rs : List Record) (f g : TableFault) → RecordsFault s rs f → RecordsFault s rs g → f ≡ g
one_records_fault s rs f g (size x) (size y) = size_misfit_one s f g x y
one_records_fault s rs f g (size x) (first good rest bad fits e h y) = absurd (size_or_misfit s f fits x)
one_records_fault s rs f g (size x) (many fits h l e) = absurd (size_or_misfit s f fits x)
one_records_fault s rs f g (first good rest bad fits e h x) (size y) = absurd (size_or_misfit s g fits y)
one_records_fault s rs f g (first good rest bad fits e h x) (first good' rest' bad' fits' e' h' y) = first_one s good good' rest rest' bad bad' f g (sym e ∙ e') h h' x y
one_records_fault s rs f g (first good rest bad fits e h x) (many fits' h' l d) = absurd (fit_or_first s rs good rest bad (length good + 2) f h' e x)
one_records_fault s rs f g (many fits h l e) (size y) = absurd (size_or_misfit s g fits y)
one_records_fault s rs f g (many fits h l d) (first good rest bad fits' e h' y) = absurd (fit_or_first s rs good rest bad (length good + 2) g h e y)
one_records_fault s rs f g (many fits h l e) (many fits' h' l' e') = e ∙ sym e'

never_both : (s : Size) (rs : List Record) (f : TableFault) → Acceptable s rs → RecordsFault s rs f → ⊥
never_both s rs f a (size x) = size_or_misfit s f a.size x
never_both s rs f a (first good rest bad fits e h x) = fit_or_first s rs good rest bad (length good + 2) f a.fit e x
never_both s rs f a (many fits h l e) = let few = a.few in omega arith

pub one_fault : (s : Size) (rs : List Record) → OneFault s rs
one_fault s rs = record { never_both = never_both s rs; one = one_records_fault s rs }

module _ (s : Size) (rs : List Record) where
  size_told : (f : TableFault) → SizeMisfit s f → (r : Result Table TableFault) → Makes s rs r → r ≡ Err f
  size_told f x (Ok t) h = absurd (size_or_misfit s f h.0.size x)
  size_told f x (Err g) (inl y) = ap Err (one_records_fault s rs g f y (size x))
  size_told f x (Err g) (inr w) = absurd (size_or_misfit s f w.0 x)

  one_made : (r q : Result Table TableFault) → Makes s rs r → Makes s rs q → (r ≡ Err NoMemory) ⊎ ((q ≡ Err NoMemory) ⊎ SameMade r q)
  one_made (Ok t) (Ok u) h k = inr (inr (h.1 ∙ sym k.1))
  one_made (Ok t) (Err g) h (inl y) = absurd (never_both s rs g h.0 y)
  one_made (Ok t) (Err g) h (inr w) = inr (inl (ap Err w.1))
  one_made (Err f) (Ok u) (inl x) k = absurd (never_both s rs f k.0 x)
  one_made (Err f) (Ok u) (inr w) k = inl (ap Err w.1)
  one_made (Err f) (Err g) (inl x) (inl y) = inr (inr (one_records_fault s rs f g x y))
  one_made (Err f) (Err g) (inl x) (inr w) = inr (inl (ap Err w.1))
  one_made (Err f) (Err g) (inr w) k = inl (ap Err w.1)

  blank_is_none : (r : Result Table TableFault) → Begins s r → Makes s [] r
  blank_is_none (Ok t) h = (record { size = h.0; fit = fit_none s; few = omega arith }, h.1)
  blank_is_none (Err f) (inl x) = inl (size x)
  blank_is_none (Err f) (inr w) = inr w

one_added : (n : Net) (line : ℕ) (r : Record) (a b : Result (Unit {0}) TableFault) (m k : Net) → Adds n line r a m → Adds n line r b k → (a ≡ b) × (m ≡ k)
one_added n line r (Ok a) (Ok b) m k h j = (refl, h.1 ∙ sym j.1)
one_added n line r (Ok a) (Err g) m k h j = absurd (takes_or_misfit n line r g h.0 j.0)
one_added n line r (Err f) (Ok b) m k h j = absurd (takes_or_misfit n line r f j.0 h.0)
one_added n line r (Err f) (Err g) m k h j = (ap Err (misfit_one n line r f g h.0 j.0), h.1 ∙ sym j.1)

pub one_making : (s : Size) (rs : List Record) → OneMaking s rs
one_making s rs = record { size = size_told s rs; one = one_made s rs; blank = blank_is_none s rs; adds = one_added }
