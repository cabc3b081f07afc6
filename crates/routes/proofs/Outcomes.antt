-- What the numbering of pairs gives.
use Rattle.std.proofs.Common.{◌≡◌, ◌≢◌, ℕ, ◌/◌, ◌%◌, ◌≤◌, eqb, List, get_or, None, refl, sym, ◌∙◌, subst, inl, inr, arith}
use Rattle.std.proofs.lemmas.Nat.{div-add-mod'}
use Rattle.std.proofs.lemmas.Bool.{le-ltb, eqb-true, eq-eqb}
use Rattle.networks.specs.Allowed.{Allowed, pairs, position, said}
use Rattle.networks.specs.Nets.{Net, Inside, Conditions}
use Rattle.networks.specs.Rooms.{first_short}
use Rattle.numbering.specs.Numbers.{Numbered, held_number}
use Rattle.numbering.specs.Outcomes.{Outcome}
use Rattle.numbering.specs.declared.Numbering.{Numbering}
use Rattle.numbering.proofs.Counts.{none_held, held_none}
use Rattle.tracing.specs.Traces.{Traced}
use Rattle.tracing.proofs.Positions.{position_below, channel_below, place_below}
use Rattle.routes.specs.Limits.{route_conditions}
use Rattle.routes.specs.Outcomes.{number_of, Routed, rooms}
use Rattle.routes.specs.Routing.{route, Longest, Endless}
use Rattle.routes.specs.declared.outcome.Routes.{Routes}
use Rattle.routes.proofs.Numbers.{longest, not_endless}
use Rattle.routes.proofs.Walks.{endless, endless_allowed, no_moves}

module _ {n : Net} (ok : Conditions n) {before table : List ℕ} {ones : ℕ} (t : Traced n before table ones) {numbers numbers' : List ℕ} {a : Numbering} (x : Outcome (route n (said table)) numbers numbers' a) where
  held_endless : (c d : ℕ) → Inside n c d → number_of n numbers' c d ≡ held_number → Endless n c d
  held_endless c d i e = go (x.all (position n c d) (position_below n ok c d i.channel i.place))
    where
      go : Numbered (route n (said table)) (λ k. get_or numbers' k 0) (position n c d) → Endless n c d
      go (inl y) = let few = (route_conditions n (said table) ok).few_items in let z = x.below (position n c d) (position_below n ok c d i.channel i.place) y.0 in absurd (omega (arith, z))
      go (inr y) = endless ok t y.0.0 y.0.1 d i.place c y.0.2

  none_free : a.held ≡ 0 → (c d : ℕ) → Inside n c d → number_of n numbers' c d ≢ held_number
  none_free e c d i = none_held numbers' (pairs n) (sym x.held ∙ e) (position n c d) (position_below n ok c d i.channel i.place)

  free_none : ((c d : ℕ) → Inside n c d → number_of n numbers' c d ≢ held_number) → a.held ≡ 0
  free_none f =
      x.held ∙ held_none numbers' (pairs n) (λ i l. subst (λ j. get_or numbers' j 0 ≢ held_number) (div-add-mod' i n.places) (
      f (i / n.places) (i % n.places) (record { channel = channel_below n ok i l; place = place_below n ok i })
      ))

  -- of two numbers of moves of a longest route neither is the greater
  one_longest : (c d k : ℕ) → Inside n c d → number_of n numbers' c d ≢ held_number → Longest n c d k → k ≡ number_of n numbers' c d
  one_longest c d k i free y =
      let z = longest ok t (λ k. get_or numbers' k 0) x.all x.below d c i free in
      omega (arith, y.none_longer z.some.0 (number_of n numbers' c d) z.some.1, z.none_longer y.some.0 k y.some.1)

  unreached : (c d : ℕ) → Inside n c d → (Allowed n c d → ⊥) → number_of n numbers' c d ≡ 0
  unreached c d i out =
      let z = longest ok t (λ k. get_or numbers' k 0) x.all x.below d c i (λ e. out (endless_allowed (held_endless c d i e))) in
      no_moves out z.some.1

  pub routed : (r : Routes) → r.held ≡ a.held → r.arriving ≡ eqb a.held 0 → Routed n before table numbers numbers' r
  routed r e f = record {
    traced = (ones, t);
    numbered = (a, x, e);
    longest = λ c d i free. longest ok t (λ k. get_or numbers' k 0) x.all x.below d c i free;
    one_longest = one_longest;
    unreached = unreached;
    endless = held_endless;
    ends = λ c d i free. not_endless ok t (λ k. get_or numbers' k 0) x.all x.below d c i free;
    limits = (refl, refl);
    arriving = ((λ e. none_free (eqb-true a.held 0 (sym f ∙ e))), (λ g. f ∙ eq-eqb a.held 0 (free_none g)));
  }

pub rooms_suffice : (n : Net) (allowed numbers work : ℕ) → pairs n ≤ allowed → pairs n ≤ numbers → pairs n ≤ work → first_short (rooms n allowed numbers work) ≡ None
rooms_suffice n allowed numbers work l m k = rw (le-ltb allowed (pairs n) l, le-ltb numbers (pairs n) m, le-ltb work (pairs n) k) refl
