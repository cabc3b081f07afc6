-- What judges say of numberings and of loads: it holds, nothing else can be said, and it agrees with what certificates say.
use Rattle.std.proofs.Common.{◌≡◌, ℕ, zero, suc, ◌<◌, ◌≤◌, ◌⊎◌, inl, inr, false, List, [], ◌∷◌, length, Option, Some, None, Ok, MatchOption, slice_index, subst, refl, sym, ap, ◌∙◌, arith}
use native.Mathlib.Decide.{dec_lt}
use Rattle.std.proofs.lemmas.Bool.{both_ways, le-ltb, false_from_ne_true}
use Rattle.networks.specs.Allowed.{Allowed, pairs, position}
use Rattle.networks.specs.Nets.{Net, Way}
use Rattle.networks.specs.Nets as nets
use Rattle.networks.specs.Rooms.{first_short}
use Rattle.networks.specs.declared.faults.Buffer.{Buffer}
use Rattle.networks.specs.declared.faults.Buffer.TheVariants as buffer
use Rattle.networks.specs.declared.pairs.Pair.{Pair}
use Rattle.networks.proofs.Inside.{allowed_inside}
use Rattle.tracing.specs.Traces.{Traced, Tells}
use Rattle.loads.specs.Loads.{packet, At, Holds, Blocked}
use Rattle.loads.specs.declared.LoadRecord.{LoadRecord}
use Rattle.certificates.specs.Promises.{SoundOfAll}
use Rattle.certificates.proofs.Sides.{needs, soundness, sound_lowers}
use Rattle.judges.specs.Judgements.{Lowest, NoSmaller, Loose, not_allowed, home, empty_way, SaidOfNumbers, SaidOfLoad}
use Rattle.judges.specs.Judges.{NumbersTried, LoadTried, rooms, JudgesNumbers, JudgesLoad}
use Rattle.judges.specs.declared.LoadJudged.{LoadJudged}
use Rattle.judges.specs.declared.LoadJudged.TheVariants as load_judged
use Rattle.judges.specs.declared.NumbersJudged.{NumbersJudged}
use Rattle.judges.specs.declared.NumbersJudged.TheVariants as numbers_judged
use Rattle.judges.proofs.PacketSearch.{loose_at}

-- There is one lowest pair that offends.
one_lowest : (Offending : ℕ → ℕ → Type 0) (p q : Pair) → Lowest Offending p.channel p.place → Lowest Offending q.channel q.place → q ≡ p
one_lowest Offending p q x y =
    let up : p.channel < q.channel → ⊥ = λ l. y.channel p.channel p.place l x.offends in
    let down : q.channel < p.channel → ⊥ = λ l. x.channel q.channel q.place l y.offends in
    let channel : q.channel ≡ p.channel = omega (arith, up, down) in
    let here : Offending q.channel p.place = rw channel x.offends in
    let there : Offending p.channel q.place = rw (← channel) y.offends in
    let above : p.place < q.place → ⊥ = λ l. y.place p.place l here in
    let below : q.place < p.place → ⊥ = λ l. x.place q.place l there in
    let place : q.place ≡ p.place = omega (arith, above, below) in
    λ i. record { channel = channel i; place = place i }

-- Some channel of a list has a number below m, or none has.
abbrev SomeBelow : (ℕ → ℕ) → ℕ → List ℕ → Type 0
SomeBelow number m ways = (k : ℕ) × (k < length ways) × (number (slice_index ways k) < m)

abbrev NoneBelow : (ℕ → ℕ) → ℕ → List ℕ → Type 0
NoneBelow number m ways = (k : ℕ) → k < length ways → m ≤ number (slice_index ways k)

some_or_none : (number : ℕ → ℕ) (m : ℕ) (ways : List ℕ) → SomeBelow number m ways ⊎ NoneBelow number m ways
some_or_none number m [] = inr (λ k l. absurd (omega arith))
some_or_none number m (h ∷ hs) = go (dec_lt (number h) m) (some_or_none number m hs)
  where
    go : Dec (number h < m) → SomeBelow number m hs ⊎ NoneBelow number m hs → SomeBelow number m (h ∷ hs) ⊎ NoneBelow number m (h ∷ hs)
    go (yes l) rest = inl (0, omega arith, l)
    go (no ge) (inl (k, l, below)) = inl (suc k, omega arith, below)
    go (no ge) (inr none) = inr each
      where
        each : NoneBelow number m (h ∷ hs)
        each zero l = omega (arith, ge)
        each (suc k) l = none k (omega arith)

-- A numbering
module _ (n : Net) (number : ℕ → ℕ) where
  -- is sound where no pair offends,
  sound : ((c d : ℕ) → NoSmaller n number c d → ⊥) → SoundOfAll n number
  sound none c d allowed away = go (some_or_none number (number c) (n.ways c d))
    where
      go : SomeBelow number (number c) (n.ways c d) ⊎ NoneBelow number (number c) (n.ways c d) → (h : ℕ) × Way n c d h × (number h < number c)
      go (inl x) = (slice_index (n.ways c d) x.0, (x.0, x.1, refl), x.2)
      go (inr ge) = absurd (none c d (record { allowed = allowed; away = away; none = λ h w. rw w.2 (ge w.0 w.1) }))

  -- and not where one does.
  no_both : SoundOfAll n number → (c d : ℕ) → Lowest (NoSmaller n number) c d → ⊥
  no_both sound c d x =
      let w = sound c d x.offends.allowed x.offends.away in
      let l = x.offends.none w.0 w.1 in
      omega (arith, l, w.2)

  -- one thing is said of it
  numbers_one : (a b : NumbersJudged) → SaidOfNumbers n number a → SaidOfNumbers n number b → b ≡ a
  numbers_one numbers_judged.Sound numbers_judged.Sound x y = refl
  numbers_one numbers_judged.Sound (numbers_judged.Offends q) x y = absurd (no_both x q.channel q.place y)
  numbers_one (numbers_judged.Offends p) numbers_judged.Sound x y = absurd (no_both y p.channel p.place x)
  numbers_one (numbers_judged.Offends p) (numbers_judged.Offends q) x y = ap numbers_judged.Offends (one_lowest (NoSmaller n number) p q x y)

-- No packet of a blocked load offends.
module _ (n : Net) (l : List LoadRecord) where
  never_loose : Blocked n l → (c d : ℕ) → Loose n l c d → ⊥
  never_loose b c d (not_allowed at out) = out (b.allowed c d at)
  never_loose b c d (home at is_home) = both_ways _ (b.away c d at) is_home
  never_loose b c d (empty_way h at w e) = absurd (cc (e, (b.full c d h at w).1.1))

  -- one thing is said of a load
  load_one : (a b : LoadJudged) → SaidOfLoad n l a → SaidOfLoad n l b → b ≡ a
  load_one load_judged.Blocked load_judged.Blocked x y = refl
  load_one load_judged.Blocked (load_judged.Offends q) x y = absurd (never_loose x q.channel q.place y.offends)
  load_one load_judged.Blocked load_judged.NoPacket x y = absurd (y x.packet.0 x.packet.1)
  load_one (load_judged.Offends p) load_judged.Blocked x y = absurd (never_loose y p.channel p.place x.offends)
  load_one (load_judged.Offends p) (load_judged.Offends q) x y = ap load_judged.Offends (one_lowest (Loose n l) p q x y)
  load_one (load_judged.Offends p) load_judged.NoPacket x y = absurd (y p.channel (p.place, loose_at l p.channel p.place x.offends))
  load_one load_judged.NoPacket load_judged.Blocked x y = absurd (x y.packet.0 y.packet.1)
  load_one load_judged.NoPacket (load_judged.Offends q) x y = absurd (x q.channel (q.place, loose_at l q.channel q.place y.offends))
  load_one load_judged.NoPacket load_judged.NoPacket x y = refl

-- what the search found, as it is said
pub said_of_lowest : (n : Net) (number : ℕ → ℕ) (r : Option Pair) → MatchOption r ((c d : ℕ) → NoSmaller n number c d → ⊥) (λ p. Lowest (NoSmaller n number) p.channel p.place) → (a : NumbersJudged) → MatchOption r (a ≡ numbers_judged.Sound) (λ p. a ≡ numbers_judged.Offends p) → SaidOfNumbers n number a
said_of_lowest n number None none a e = rw e (sound n number none)
said_of_lowest n number (Some p) lowest a e = rw e lowest

-- the buffers suffice for a judge
rooms_suffice : (n : Net) (allowed : ℕ) (buffer : Buffer) (given work : ℕ) → pairs n ≤ allowed → n.channels ≤ given → pairs n ≤ work → first_short (rooms n allowed buffer given work) ≡ None
rooms_suffice n allowed buffer given work a b c = rw (le-ltb allowed (pairs n) a, le-ltb given n.channels b, le-ltb work (pairs n) c) refl

module _ {n : Net} (ok : nets.Conditions n) {allowed allowed' : List ℕ} {ones : ℕ} (t : Traced n allowed allowed' ones) where
  -- a numbering with the numbers of a sound one is sound
  sound_same : (f g : ℕ → ℕ) → ((c : ℕ) → c < n.channels → g c ≡ f c) → SoundOfAll n f → SoundOfAll n g
  sound_same f g same sound c d reached away =
      let w = sound c d reached away in
      let here = same c (allowed_inside n ok reached).channel in
      let there = same w.0 (rw w.1.2 (ok.ways_inside c d w.1.0 w.1.1)) in
      (w.0, w.1, omega (arith, here, there, w.2))

  numbers_tried : (numbers : List ℕ) (a : NumbersJudged) → SaidOfNumbers n (slice_index numbers) a → NumbersTried n allowed allowed' numbers a
  numbers_tried numbers a said_of = record {
    traced = (ones, t);
    judged = record { holds = said_of; only = only };
    needs = needs ok t;
    soundness = (λ e. (soundness ok t number).0 (is_sound e), λ s. of_sound ((soundness ok t number).1 s));
    own = λ x free same. of_sound (sound_same (slice_index x.numbers') number same (sound_lowers ok x.certified.checked free));
    forces = λ x e. let least = x.certified.promises.least number (is_sound e) in (least.0, least.2);
  }
    where
      number : ℕ → ℕ
      number = slice_index numbers

      only : (b : NumbersJudged) → SaidOfNumbers n (slice_index numbers) b → b ≡ a
      only b x = numbers_one n (slice_index numbers) a b said_of x

      is_sound : a ≡ numbers_judged.Sound → SoundOfAll n (slice_index numbers)
      is_sound e = subst (λ (b : NumbersJudged). SaidOfNumbers n (slice_index numbers) b) e said_of

      of_sound : SoundOfAll n (slice_index numbers) → a ≡ numbers_judged.Sound
      of_sound x = sym (only numbers_judged.Sound x)

  pub judges_numbers : (numbers : List ℕ) (work : ℕ) → pairs n ≤ length allowed → n.channels ≤ length numbers → pairs n ≤ work → (a : NumbersJudged) → SaidOfNumbers n (slice_index numbers) a → JudgesNumbers n allowed numbers work (Ok a) allowed'
  judges_numbers numbers work p q r a said_of = (rooms_suffice n (length allowed) buffer.Numbers (length numbers) work p q r, numbers_tried numbers a said_of)

  -- a packet's pair is allowed or not
  allowed_or : (c d : ℕ) → c < n.channels → Allowed n c d ⊎ (Allowed n c d → ⊥)
  allowed_or c d l = go (dec_lt d n.places)
    where
      told : Tells (Allowed n c d) (slice_index allowed' (position n c d)) → Allowed n c d ⊎ (Allowed n c d → ⊥)
      told (inl x) = inl x.0
      told (inr x) = inr x.0

      go : Dec (d < n.places) → Allowed n c d ⊎ (Allowed n c d → ⊥)
      go (yes m) = told (t.bytes c d l m)
      go (no m) = inr (λ reached. m (allowed_inside n ok reached).place)

  -- a load with packets of which none offends is blocked
  pub blocked : (load : List LoadRecord) → ((c d : ℕ) → Loose n load c d → ⊥) → (c : ℕ) × Holds n load c → Blocked n load
  blocked load none some = record { allowed = allowed_at; packet = some; away = away_at; full = full_at }
    where
      allowed_at : (c d : ℕ) → At n load c d → Allowed n c d
      allowed_at c d at = elim (allowed_or c d at.0) [ inl x ↦ x | inr out ↦ absurd (none c d (not_allowed at out)) ]

      away_at : (c d : ℕ) → At n load c d → n.home c d ≡ false
      away_at c d at = false_from_ne_true (n.home c d) (λ is_home. none c d (home at is_home))

      full_at : (c d h : ℕ) → At n load c d → Way n c d h → Holds n load h
      full_at c d h at w = go (packet load h) refl
        where
          go : (p : Option ℕ) → packet load h ≡ p → Holds n load h
          go None e = absurd (none c d (empty_way h at w e))
          go (Some f) e = (f, (rw w.2 (ok.ways_inside c d w.0 w.1), e))

  -- a load with the packets of a blocked one is blocked
  blocked_same : (l m : List LoadRecord) → ((c : ℕ) → c < n.channels → packet m c ≡ packet l c) → Blocked n l → Blocked n m
  blocked_same l m same b = record {
    allowed = λ c d at. b.allowed c d (back c d at);
    packet = (b.packet.0, on b.packet.0 b.packet.1);
    away = λ c d at. b.away c d (back c d at);
    full = λ c d h at w. on h (b.full c d h (back c d at) w);
  }
    where
      back : (c d : ℕ) → At n m c d → At n l c d
      back c d at = (at.0, sym (same c at.0) ∙ at.1)

      on : (c : ℕ) → Holds n l c → Holds n m c
      on c (d, at) = (d, (at.0, same c at.0 ∙ at.1))

  load_tried : (load : List LoadRecord) (a : LoadJudged) → SaidOfLoad n load a → LoadTried n allowed allowed' load a
  load_tried load a said_of = record {
    traced = (ones, t);
    judged = record { holds = said_of; only = only };
    own = λ x shut same. sym (only load_judged.Blocked (blocked_same x.load' load same (x.certified.checked.blocked.0 shut)));
    forces = λ x e. let most = x.certified.promises.greatest load (is_blocked e) in (most.0, most.2);
  }
    where
      only : (b : LoadJudged) → SaidOfLoad n load b → b ≡ a
      only b x = load_one n load a b said_of x

      is_blocked : a ≡ load_judged.Blocked → Blocked n load
      is_blocked e = subst (λ (b : LoadJudged). SaidOfLoad n load b) e said_of

  pub judges_load : (load : List LoadRecord) (work : ℕ) → pairs n ≤ length allowed → n.channels ≤ length load → pairs n ≤ work → (a : LoadJudged) → SaidOfLoad n load a → JudgesLoad n allowed load work (Ok a) allowed'
  judges_load load work p q r a said_of = (rooms_suffice n (length allowed) buffer.Load (length load) work p q r, load_tried load a said_of)
