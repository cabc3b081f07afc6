-- Whether a table tells which pairs are allowed.
use Rattle.std.proofs.Common.{◌≡◌, ℕ, zero, suc, ◌<◌, inl, inr, Bool, true, false, not, ◌&&◌, ◌||◌, eqb, List, [], ◌∷◌, ◌++◌, map, length, slice_index, refl, sym, ◌∙◌, ◌⊎◌, arith, cond, take, count_by}
use Rattle.std.specs.List.{AllByRecursion, flat_map, list_all, list_any}
use Rattle.std.proofs.lemmas.Bool.{and_parts, eqb-true, cond_both, or_cases, both_ways}
use Rattle.std.proofs.ByRecursion.{All-append}
use Rattle.std.proofs.lemmas.List.{get_or_past}
use Rattle.std.proofs.lemmas.List.Elements.{recursion_from_All, All-map, All-from_get_or}
use Rattle.std.proofs.lemmas.List.Sums.{AllPass-from_list_all}
use Rattle.networks.specs.Allowed.{Allowed, enters, moves, pairs, position, said}
use Rattle.networks.specs.Nets.{Net, Conditions}
use Rattle.networks.specs.declared.pairs.Pair.{Pair}
use Rattle.networks.proofs.Inside.{allowed_inside, entry_inside}
use Rattle.tracing.specs.Traces.{Tells, Traced}
use Rattle.cases.proofs.Ranges.{each_below, each_at, follows}

abbrev pair : ℕ → ℕ → Pair
pair c d = record { channel = c; place = d }

-- the entries of a channel, and of all channels below one
abbrev entries_of : Net → ℕ → ℕ → List Pair
entries_of n c zero = []
entries_of n c (suc d) = cond (n.entry c d) (pair c d ∷ entries_of n c d) (entries_of n c d)

abbrev entries_below : Net → ℕ → List Pair
entries_below n zero = []
entries_below n (suc c) = entries_of n c n.places ++ entries_below n c

-- where packets of a pair may move, and those of pairs
abbrev onward : Net → Pair → List Pair
onward n p = cond (n.home p.channel p.place) [] (map (λ h. pair h p.place) (n.ways p.channel p.place))

-- the pairs, and those that packets reach from them by so many moves at most
abbrev reached : Net → ℕ → List Pair → List Pair
reached n zero ps = ps
reached n (suc k) ps = ps ++ reached n k (flat_map (onward n) ps)

abbrev among : ℕ → ℕ → List Pair → Bool
among c d ps = list_any (λ (p : Pair). eqb p.channel c && eqb p.place d) ps

-- a pair that the table says to be allowed is among those, and if it is not home, so are those to which packets may move
abbrev closed : Net → List ℕ → ℕ → ℕ → Bool
closed n table c d = not (said table (position n c d)) || (n.home c d || list_all (λ h. said table (position n h d)) (n.ways c d))

abbrev told : Net → List ℕ → List Pair → ℕ → ℕ → Bool
told n table ps c d = cond (among c d ps) (said table (position n c d)) (eqb (slice_index table (position n c d)) 0)

abbrev entered : Net → List ℕ → ℕ → ℕ → Bool
entered n table c d = not (n.entry c d) || said table (position n c d)

abbrev tells : Net → List ℕ → List Pair → ℕ → ℕ → Bool
tells n table ps c d = told n table ps c d && (entered n table c d && closed n table c d)

abbrev tells_all : Net → List ℕ → List Pair → Bool
tells_all n table ps = each_below (λ c. each_below (λ d. tells n table ps c d) n.places) n.channels

abbrev pub table_fits : Net → List ℕ → Bool
table_fits n table = eqb (length table) (pairs n) && tells_all n table (reached n n.channels (entries_below n n.channels))

-- each of the pairs is allowed
abbrev AllReach : Net → List Pair → Type 0
AllReach n = AllByRecursion (λ (p : Pair). Allowed n p.channel p.place)

module _ (n : Net) where
  entries_of_reach : (c d : ℕ) → AllReach n (entries_of n c d)
  entries_of_reach c zero = tt
  entries_of_reach c (suc d) = cond_both (n.entry c d) (pair c d ∷ entries_of n c d) (entries_of n c d) (AllReach n) (λ e. (enters e, entries_of_reach c d)) (λ _. entries_of_reach c d)

  entries_reach : (c : ℕ) → AllReach n (entries_below n c)
  entries_reach zero = tt
  entries_reach (suc c) = All-append (λ (p : Pair). Allowed n p.channel p.place) (entries_of n c n.places) (entries_below n c) (entries_of_reach c n.places) (entries_reach c)

  onward_reach : (p : Pair) → Allowed n p.channel p.place → AllReach n (onward n p)
  onward_reach p a =
      cond_both (n.home p.channel p.place) [] (map (λ h. pair h p.place) (n.ways p.channel p.place)) (AllReach n) (λ _. tt)
      (λ e. recursion_from_All (λ (q : Pair). Allowed n q.channel q.place) (map (λ h. pair h p.place) (n.ways p.channel p.place))
      (All-map (λ (q : Pair). Allowed n q.channel q.place) (λ h. pair h p.place) (n.ways p.channel p.place)
      (All-from_get_or (λ h. Allowed n h p.place) (n.ways p.channel p.place) 0 (λ k l. moves a e (k, l, refl)))))

  all_onward_reach : (ps : List Pair) → AllReach n ps → AllReach n (flat_map (onward n) ps)
  all_onward_reach [] r = tt
  all_onward_reach (p ∷ ps) r = All-append (λ (q : Pair). Allowed n q.channel q.place) (onward n p) (flat_map (onward n) ps) (onward_reach p r.0) (all_onward_reach ps r.1)

  reached_reach : (k : ℕ) (ps : List Pair) → AllReach n ps → AllReach n (reached n k ps)
  reached_reach zero ps r = r
  reached_reach (suc k) ps r = All-append (λ (q : Pair). Allowed n q.channel q.place) ps (reached n k (flat_map (onward n) ps)) r (reached_reach k (flat_map (onward n) ps) (all_onward_reach ps r))

  among_reach : (c d : ℕ) (ps : List Pair) → AllReach n ps → among c d ps ≡ true → Allowed n c d
  among_reach c d [] r e = absurd (both_ways false refl e)
  among_reach c d (p ∷ ps) r e = go (or_cases (eqb p.channel c && eqb p.place d) (among c d ps) e) (among_reach c d ps r.1)
    where
      go : (eqb p.channel c && eqb p.place d ≡ true) ⊎ (among c d ps ≡ true) → (among c d ps ≡ true → Allowed n c d) → Allowed n c d
      go (inl x) again = let y = and_parts (eqb p.channel c) (eqb p.place d) x in rw (← eqb-true _ _ y.0, ← eqb-true _ _ y.1) r.0
      go (inr x) again = again x

module _ (n : Net) (ok : Conditions n) (table : List ℕ) (e : table_fits n table ≡ true) where
  abbrev all : List Pair
  all = reached n n.channels (entries_below n n.channels)

  pub exact : length table ≡ pairs n
  exact = eqb-true _ _ (and_parts (eqb (length table) (pairs n)) (tells_all n table all) e).0

  at : (c d : ℕ) → c < n.channels → d < n.places → tells n table all c d ≡ true
  at c d l m =
      each_at (λ d. tells n table all c d) n.places
      (each_at (λ c. each_below (λ d. tells n table all c d) n.places) n.channels (and_parts (eqb (length table) (pairs n)) (tells_all n table all) e).1 c l) d m

  allowed_said : {c d : ℕ} → Allowed n c d → said table (position n c d) ≡ true
  allowed_said {c} {d} (enters x) =
      let i = entry_inside n ok c d x in
      let y = and_parts (told n table all c d) (entered n table c d && closed n table c d) (at c d i.channel i.place) in
      follows _ _ (and_parts (entered n table c d) (closed n table c d) y.1).0 x
  allowed_said {c = h} {d} (moves {c = c} a away w) =
      let i = allowed_inside n ok a in
      let y = and_parts (told n table all c d) (entered n table c d && closed n table c d) (at c d i.channel i.place) in
      let z = follows _ _ (and_parts (entered n table c d) (closed n table c d) y.1).1 (allowed_said a) in
      let ways : list_all (λ h. said table (position n h d)) (n.ways c d) ≡ true = grind (arith, z, away) in
      rw w.2 (AllPass-from_list_all (λ h. said table (position n h d)) (n.ways c d) ways w.0 0 w.1)

  tells_one : (c d : ℕ) → c < n.channels → d < n.places → Tells (Allowed n c d) (slice_index table (position n c d))
  tells_one c d l m = go (among c d all) refl (and_parts (told n table all c d) (entered n table c d && closed n table c d) (at c d l m)).0
    where
      go : (b : Bool) → among c d all ≡ b → cond b (said table (position n c d)) (eqb (slice_index table (position n c d)) 0) ≡ true → Tells (Allowed n c d) (slice_index table (position n c d))
      go true x y = inl (among_reach n c d all (reached_reach n n.channels (entries_below n n.channels) (entries_reach n n.channels)) x, eqb-true _ _ y)
      go false x y = inr ((λ a. let one = eqb-true _ _ (allowed_said a) in let none = eqb-true _ _ y in omega (arith, one, none)), eqb-true _ _ y)

  pub traced : (before : List ℕ) → length before ≡ pairs n → Traced n before table (count_by (λ byte. eqb byte 1) (take (pairs n) table))
  traced before len = record {
    bytes = tells_one;
    beyond = λ k l. get_or_past table k 0 (omega (arith, exact)) ∙ sym (get_or_past before k 0 (omega (arith, len)));
    count = refl;
  }
