-- What a check's verdict says against every sound numbering and every blocked load.
use Rattle.std.proofs.Common.{◌≡◌, ℕ, ◌<◌, ◌≤◌, ◌↔◌, true, false, nat_lt, List, slice_index, refl}
use Rattle.std.proofs.lemmas.Bool.{ltb-true, lt-ltb, ne_eqb, and_from, not_from_false}
use Rattle.networks.specs.Allowed.{Allowed, said}
use Rattle.networks.specs.Nets.{Net}
use Rattle.networks.specs.Nets as nets
use Rattle.numbering.specs.Systems.{System}
use Rattle.numbering.specs.Numbers.{Held, Sound, held_number}
use Rattle.numbering.specs.Outcomes.{Outcome}
use Rattle.numbering.specs.declared.Numbering.{Numbering}
use Rattle.tracing.specs.Traces.{Traced}
use Rattle.escapes.specs.Escaping.{escape, escape_conditions}
use Rattle.loads.specs.Loads.{Holds, Blocked}
use Rattle.loads.specs.declared.LoadRecord.{LoadRecord}
use Rattle.checks.specs.Checks.{Judged, Checked}
use Rattle.checks.specs.declared.outcome.Check.{Check}
use Rattle.checks.specs.declared.outcome.Verdict.{Verdict}
use Rattle.checks.specs.declared.outcome.Verdict.TheVariants as verdicts
use Rattle.checks.proofs.Blocking.{need_moves, listed_allowed, packets_held}
use Rattle.checks.proofs.OurLoad.{held_has, is_held}
use Rattle.certificates.specs.Promises.{SoundOfAll}

-- where every channel is numbered none is held, and where none is held the verdict is free
none_held : (v : Verdict) (s : System) (number : ℕ → ℕ) → Judged v s number → v ≡ verdicts.Free → (c : ℕ) → c < s.items → number c ≡ held_number → ⊥
none_held verdicts.Free s number free e = free
none_held verdicts.Blocked s number held e = absurd (cc)

is_free : (v : Verdict) (s : System) (number : ℕ → ℕ) → Judged v s number → ((c : ℕ) → c < s.items → number c ≡ held_number → ⊥) → v ≡ verdicts.Free
is_free verdicts.Free s number free none = refl
is_free verdicts.Blocked s number held none = absurd (none held.0 held.1 held.2)

-- a verdict that is not free is blocked
is_blocked : (v : Verdict) → (v ≡ verdicts.Free → ⊥) → v ≡ verdicts.Blocked
is_blocked verdicts.Free not_free = absurd (not_free refl)
is_blocked verdicts.Blocked not_free = refl

module _ {n : Net} (ok : nets.Conditions n) {before table : List ℕ} {ones : ℕ} (t : Traced n before table ones) where
  -- The needs are the pairs that packets can reach and that are not home.
  pub needs : (c d : ℕ) → ((escape n (said table)).need c d ≡ true) ↔ (Allowed n c d × (n.home c d ≡ false))
  needs c d = (
    need_moves t c d,
    λ moves. and_from _ _ (listed_allowed ok t c d moves.0) (not_from_false _ moves.1),
  )

  -- A numbering that is sound of all pairs is sound for the release system of the channels, and the other way round.
  pub soundness : (number : ℕ → ℕ) → SoundOfAll n number ↔ Sound (escape n (said table)) (λ c. nat_lt c n.channels) number
  soundness number = (for_system, of_all)
    where
      for_system : SoundOfAll n number → Sound (escape n (said table)) (λ c. nat_lt c n.channels) number
      for_system sound c d inside need =
          let m = (needs c d).0 need in
          let w = sound c d m.0 m.1 in
          (w.0, w.1, lt-ltb w.0 n.channels (rw w.1.2 (ok.ways_inside c d w.1.0 w.1.1)), w.2)

      of_all : Sound (escape n (said table)) (λ c. nat_lt c n.channels) number → SoundOfAll n number
      of_all sound c d allowed away =
          let need = (needs c d).1 (allowed, away) in
          let w = sound c d (lt-ltb c n.channels ((escape_conditions n (said table) ok).need_inside c d need).0) need in
          (w.0, w.1, w.3)

  -- Where no channel is held, the numbers that are defined are a sound numbering of all channels.
  pub sound_free : {numbers numbers' : List ℕ} {a : Numbering} → Outcome (escape n (said table)) numbers numbers' a → ((c : ℕ) → c < n.channels → slice_index numbers' c ≡ held_number → ⊥) → SoundOfAll n (slice_index numbers')
  sound_free {numbers' = numbers'} o none c d allowed away =
      let need = (needs c d).1 (allowed, away) in
      let inside = ((escape_conditions n (said table) ok).need_inside c d need).0 in
      let w = o.sound c d (and_from _ _ (lt-ltb c n.channels inside) (not_from_false _ (ne_eqb _ _ (none c inside)))) need in
      (w.0, w.1, w.3)

module _ {n : Net} (ok : nets.Conditions n) {before table numbers numbers' : List ℕ} {load load' : List LoadRecord} {a : Check} (x : Checked n before table numbers numbers' load load' a) where
  -- Where the verdict is free, our numbers are a sound numbering of all channels.
  pub sound_lowers : a.verdict ≡ verdicts.Free → SoundOfAll n (slice_index numbers')
  sound_lowers free = sound_free ok x.traced.1 x.numbered (none_held a.verdict (escape n (said table)) (slice_index numbers') x.verdict free)

  -- Whoever has a sound numbering of all channels: the verdict is free, our numbers are sound too, and none is greater.
  pub least : (other : ℕ → ℕ) → SoundOfAll n other → (a.verdict ≡ verdicts.Free) × SoundOfAll n (slice_index numbers') × ((c : ℕ) → c < n.channels → slice_index numbers' c ≤ other c)
  least other sound = (free, sound_lowers free, λ c l. (best c l).1)
    where
      best : (c : ℕ) → c < n.channels → (Held (escape n (said table)) c → ⊥) × (slice_index numbers' c ≤ other c)
      best c l = x.numbered.least (λ i. nat_lt i n.channels) other (λ i. ltb-true i n.channels) ((soundness ok x.traced.1 other).0 sound) c (lt-ltb c n.channels l)

      free : a.verdict ≡ verdicts.Free
      free = is_free a.verdict (escape n (said table)) (slice_index numbers') x.verdict (λ c l e. (best c l).0 (is_held (escape_conditions n (said table) ok) x.numbered.all x.numbered.below c l e))

  -- Whoever has a blocked load: the verdict is blocked, and our load is blocked and has a packet wherever that one has.
  pub greatest : (other : List LoadRecord) → Blocked n other → (a.verdict ≡ verdicts.Blocked) × Blocked n load' × ((c : ℕ) → Holds n other c → Holds n load' c)
  greatest other b = (shut, x.blocked.0 shut, holds)
    where
      shut : a.verdict ≡ verdicts.Blocked
      shut = is_blocked a.verdict (λ free. x.none_blocked free other b)

      holds : (c : ℕ) → Holds n other c → Holds n load' c
      holds c h =
          let l = h.1.0 in
          let held = held_has (escape_conditions n (said table) ok) x.numbered.all x.numbered.below c l (packets_held ok x.traced.1 other b c h) in
          let p = (x.ours c l).held held in
          (p.0, (l, p.1))
