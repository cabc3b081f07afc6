-- What is judged depends on what is said of the network's channels, and is one.
use Rattle.std.proofs.Common.{◌≡◌, ℕ, ◌<◌, List, slice_index, sym, ◌∙◌, arith}
use Rattle.networks.specs.Nets.{Net, Way, Conditions}
use Rattle.networks.proofs.Inside.{allowed_inside}
use Rattle.loads.specs.Loads.{packet, At, Holds, Blocked}
use Rattle.loads.specs.declared.LoadRecord.{LoadRecord}
use Rattle.certificates.specs.Promises.{SoundOfAll}
use Rattle.judges.specs.Judgements.{Lowest, NoSmaller, Loose, not_allowed, home, empty_way, SaidOfNumbers, SaidOfLoad}
use Rattle.judges.specs.Judges.{NumbersTried, LoadTried}
use Rattle.judges.specs.declared.LoadJudged.{LoadJudged}
use Rattle.judges.specs.declared.LoadJudged.TheVariants as load_judged
use Rattle.judges.specs.declared.NumbersJudged.{NumbersJudged}
use Rattle.judges.specs.declared.NumbersJudged.TheVariants as numbers_judged

lowest_same : (P Q : ℕ → ℕ → Type 0) → ((c d : ℕ) → P c d → Q c d) → ((c d : ℕ) → Q c d → P c d) → (c d : ℕ) → Lowest P c d → Lowest Q c d
lowest_same P Q to back c d x =
    record { offends = to c d x.offends; channel = λ e f l q. x.channel e f l (back e f q); place = λ f l q. x.place f l (back c f q) }

way_below : (n : Net) → Conditions n → (c d h : ℕ) → Way n c d h → h < n.channels
way_below n ok c d h (k, l, e) = omega (arith, ok.ways_inside c d k l, e)

module _ (n : Net) (ok : Conditions n) where
  module _ (f g : ℕ → ℕ) (same : (c : ℕ) → c < n.channels → f c ≡ g c) where
    sound_same : SoundOfAll n f → SoundOfAll n g
    sound_same s c d a away =
        let x = s c d a away in
        let i = (allowed_inside n ok a).channel in
        (x.0, x.1, omega (arith, x.2, same x.0 (way_below n ok c d x.0 x.1), same c i))

    no_smaller_same : (c d : ℕ) → NoSmaller n f c d → NoSmaller n g c d
    no_smaller_same c d x =
        let i = (allowed_inside n ok x.allowed).channel in
        record { allowed = x.allowed; away = x.away; none = λ h w. omega (arith, x.none h w, same h (way_below n ok c d h w), same c i) }

  said_of_numbers : (f g : ℕ → ℕ) → ((c : ℕ) → c < n.channels → f c ≡ g c) → (j : NumbersJudged) → SaidOfNumbers n f j → SaidOfNumbers n g j
  said_of_numbers f g same numbers_judged.Sound x = sound_same f g same x
  said_of_numbers f g same (numbers_judged.Offends p) x = lowest_same (NoSmaller n f) (NoSmaller n g) (no_smaller_same f g same) (no_smaller_same g f (λ c l. sym (same c l))) p.channel p.place x

  module _ (l m : List LoadRecord) (same : (c : ℕ) → c < n.channels → packet l c ≡ packet m c) where
    stands : (c d : ℕ) → At n l c d → At n m c d
    stands c d a = (a.0, sym (same c a.0) ∙ a.1)

    stood : (c d : ℕ) → At n m c d → At n l c d
    stood c d a = (a.0, same c a.0 ∙ a.1)

    holds : (c : ℕ) → Holds n l c → Holds n m c
    holds c (d, a) = (d, stands c d a)

    held : (c : ℕ) → Holds n m c → Holds n l c
    held c (d, a) = (d, stood c d a)

    blocked_same : Blocked n l → Blocked n m
    blocked_same b =
        record {
          allowed = λ c d a. b.allowed c d (stood c d a);
          packet = (b.packet.0, holds b.packet.0 b.packet.1);
          away = λ c d a. b.away c d (stood c d a);
          full = λ c d h a w. holds h (b.full c d h (stood c d a) w);
        }

    loose_same : (c d : ℕ) → Loose n l c d → Loose n m c d
    loose_same c d (not_allowed a never) = not_allowed (stands c d a) never
    loose_same c d (home a e) = home (stands c d a) e
    loose_same c d (empty_way h a w e) = empty_way h (stands c d a) w (sym (same h (way_below n ok c d h w)) ∙ e)

  said_of_load : (l m : List LoadRecord) → ((c : ℕ) → c < n.channels → packet l c ≡ packet m c) → (j : LoadJudged) → SaidOfLoad n l j → SaidOfLoad n m j
  said_of_load l m same load_judged.Blocked x = blocked_same l m same x
  said_of_load l m same (load_judged.Offends p) x = lowest_same (Loose n l) (Loose n m) (loose_same l m same) (loose_same m l (λ c h. sym (same c h))) p.channel p.place x
  said_of_load l m same load_judged.NoPacket x = λ c h. x c (held l m same c h)

  pub one_of_numbers : (t t' s s' numbers numbers' : List ℕ) (j k : NumbersJudged) → ((c : ℕ) → c < n.channels → slice_index numbers c ≡ slice_index numbers' c) → NumbersTried n t t' numbers j → NumbersTried n s s' numbers' k → j ≡ k
  one_of_numbers t t' s s' numbers numbers' j k same x y = y.judged.only j (said_of_numbers (slice_index numbers) (slice_index numbers') same j x.judged.holds)

  pub one_of_loads : (t t' s s' : List ℕ) (load load' : List LoadRecord) (j k : LoadJudged) → ((c : ℕ) → c < n.channels → packet load c ≡ packet load' c) → LoadTried n t t' load j → LoadTried n s s' load' k → j ≡ k
  one_of_loads t t' s s' load load' j k same x y = y.judged.only j (said_of_load load load' same j x.judged.holds)
