-- Whether a verdict and our load are those that follow from the numbers of the channels, and whether what is said of routes follows
-- from the numbers of the pairs.
use Rattle.std.proofs.Common.{◌≡◌, ℕ, Bool, true, false, not, ◌&&◌, eqb, eq-eqb, cond, if◌then◌else◌, List, Option, Some, None, refl, sym}
use Rattle.std.specs.List.{list_all}
use Rattle.std.proofs.lemmas.Bool.{and_parts, and_from, both_ways, eqb-true, not-true}
use Rattle.numbering.specs.Systems.{System}
use Rattle.numbering.specs.Numbers.{held_number}
use Rattle.loads.specs.Loads.{packet}
use Rattle.loads.specs.declared.LoadRecord.{LoadRecord}
use Rattle.checks.specs.Checks.{Shut, OurPacket, Ours}
use Rattle.checks.specs.declared.outcome.Verdict.{Verdict}
use Rattle.checks.specs.declared.outcome.Verdict.TheVariants.{Free, Blocked}
use Rattle.checks.proofs.OurLoad.{all_held}
use Rattle.routes.specs.declared.outcome.Routes.{Routes}
use Rattle.cases.proofs.Ranges.{each_below, each_at}

-- the verdict, where so many channels are held
abbrev pub verdict_fits : Verdict → ℕ → Bool
verdict_fits Free held = eqb held 0
verdict_fits Blocked held = not (eqb held 0)

pub verdict_is : (v : Verdict) (held : ℕ) → verdict_fits v held ≡ true → v ≡ (if eqb held 0 then Free else Blocked)
verdict_is Free held e = rw e refl
verdict_is Blocked held e = rw (not-true _ e) refl

abbrev pub arriving_fits : Routes → Bool
arriving_fits r = cond r.arriving (eqb r.held 0) (not (eqb r.held 0))

pub arriving_is : (r : Routes) → arriving_fits r ≡ true → r.arriving ≡ eqb r.held 0
arriving_is r e = go r.arriving e
  where
    go : (b : Bool) → cond b (eqb r.held 0) (not (eqb r.held 0)) ≡ true → b ≡ eqb r.held 0
    go true f = sym f
    go false f = sym (not-true _ f)

module _ (s : System) (g : ℕ → ℕ) where
  -- the need has only held ways
  abbrev only_held : ℕ → ℕ → Bool
  only_held c d = list_all (λ h. eqb (g h) held_number) (s.ways c d)

  abbrev shut : ℕ → ℕ → Bool
  shut c d = s.need c d && only_held c d

  abbrev packet_fits : ℕ → Option ℕ → Bool
  packet_fits c None = not (eqb (g c) held_number)
  packet_fits c (Some d) = eqb (g c) held_number && (shut c d && each_below (λ e. not (shut c e)) d)

  abbrev pub load_fits : List LoadRecord → Bool
  load_fits load = each_below (λ c. packet_fits c (packet load c)) s.items

  is_shut : (c d : ℕ) → shut c d ≡ true → Shut s g c d
  is_shut c d e = let x = and_parts (s.need c d) (only_held c d) e in (all_held s g c d (only_held c d) x.0 refl).0 x.1

  shut_is : (c d : ℕ) → Shut s g c d → shut c d ≡ true
  shut_is c d x = and_from (s.need c d) (only_held c d) x.0 ((all_held s g c d (only_held c d) x.0 refl).1 x)

  our_packet : (c : ℕ) (p : Option ℕ) → packet_fits c p ≡ true → OurPacket s g c p
  our_packet c None e = record { held = λ held. absurd (both_ways _ (not-true _ e) (eq-eqb _ _ held)); free = λ _. refl }
  our_packet c (Some d) e =
      let x = and_parts (eqb (g c) held_number) (shut c d && each_below (λ e. not (shut c e)) d) e in
      let y = and_parts (shut c d) (each_below (λ e. not (shut c e)) d) x.1 in
      record {
        held = λ _. (d, refl, record { shut = is_shut c d y.0; below = λ k l z. both_ways _ (not-true _ (each_at (λ e. not (shut c e)) d y.1 k l)) (shut_is c k z) });
        free = λ free. absurd (free (eqb-true _ _ x.0));
      }

  pub ours : (load : List LoadRecord) → load_fits load ≡ true → Ours s g load
  ours load e c l = our_packet c (packet load c) (each_at (λ c. packet_fits c (packet load c)) s.items e c l)
