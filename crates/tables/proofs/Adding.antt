-- The network of the cells, after one cell has changed.
use Rattle.std.proofs.Common.{◌≡◌, ℕ, ◌+◌, ◌*◌, ◌/◌, ◌%◌, ◌<◌, Bool, true, false, cond, ◌&&◌, ◌||◌, eqb, ltb, ◌≢◌, List, [], ◌∷◌, ◌++◌, length, set, sym, refl, ap, ◌∙◌, subst}
use Rattle.std.proofs.lemmas.Nat.{div-mul-add, mod-mul-add}
use Rattle.std.proofs.lemmas.List.{append-nil, get_or-set_same, get_or-set_other}
use Rattle.std.proofs.lemmas.Bool.{ltb-true, lt-ltb, eq-eqb, and_from, and_parts, cond-true, cond-false}
use Rattle.std.proofs.Math.Bool.{or-false, or-true}
use Rattle.networks.specs.Nets.{Net}
use Rattle.records.specs.declared.Record.TheVariants.{Entry, Home, Way}
use Rattle.tables.specs.declared.cell.Cell.{Cell}
use Rattle.tables.specs.Cells.{inside, cell_of, look, net_of, as_entry, as_home, with_way}
use Rattle.tables.specs.Drawn.{adding}
use Rattle.tables.proofs.Pairs.{Same, here, elsewhere, same_pair}

-- networks that answer alike are equal
pub net_ext : {n m : Net} → n.channels ≡ m.channels → n.places ≡ m.places → ((c d : ℕ) → n.entry c d ≡ m.entry c d) → ((c d : ℕ) → n.home c d ≡ m.home c d) → ((c d : ℕ) → n.ways c d ≡ m.ways c d) → n ≡ m
net_ext p q e h w = λ i. record { channels = p i; places = q i; entry = λ c d. e c d i; home = λ c d. h c d i; ways = λ c d. w c d i }

cond_inside : {X : Type 0} (b : Bool) (x y z : X) → (b ≡ true → x ≡ y) → cond b x z ≡ cond b y z
cond_inside true x y z h = h refl
cond_inside false x y z h = refl

cond_self : {X : Type 0} (b : Bool) (x : X) → cond b x x ≡ x
cond_self true x = refl
cond_self false x = refl

cond_test : (b : Bool) → cond b true false ≡ b
cond_test true = refl
cond_test false = refl

module _ (channels places : ℕ) (cells : List Cell) (a b : ℕ) (in-channels : a < channels) (in-places : b < places) (there : a * places + b < length cells) where
  -- another pair has another cell
  look_other : {X : Type 0} (says : Cell → X) (z : X) (x : Cell) (c d : ℕ) → ((c ≡ a) × (d ≡ b) → ⊥) → look says z channels places (set cells (a * places + b) x) c d ≡ look says z channels places cells c d
  look_other says z x c d other = cond_inside (inside channels places c d) _ _ z (λ e. ap says (get_or-set_other cells (a * places + b) (c * places + d) x _ (apart e)))
    where
      apart : inside channels places c d ≡ true → c * places + d ≢ a * places + b
      apart e same =
          let lt = ltb-true d places (and_parts (ltb c channels) (ltb d places) e).1 in
          other (sym (div-mul-add c places d lt) ∙ ap (λ k. k / places) same ∙ div-mul-add a places b in-places, sym (mod-mul-add c places d lt) ∙ ap (λ k. k % places) same ∙ mod-mul-add a places b in-places)

  look_here : {X : Type 0} (says : Cell → X) (z : X) (xs : List Cell) → look says z channels places xs a b ≡ says (cell_of places xs a b)
  look_here says z xs = cond-true (inside channels places a b) _ z (and_from _ _ (lt-ltb a channels in-channels) (lt-ltb b places in-places))

  -- What a changed cell says more, its pair says more, and no other.
  grown : {X : Type 0} (says : Cell → X) (z : X) (plus : X → X → X) (none more : X) → ((w : X) → plus w none ≡ w) → (x : Cell) → says x ≡ plus (says (cell_of places cells a b)) more → (c d : ℕ) → look says z channels places (set cells (a * places + b) x) c d ≡ plus (look says z channels places cells c d) (cond (eqb a c && eqb b d) more none)
  grown says z plus none more unit x is c d = go (same_pair a b c d)
    where
      at_pair : look says z channels places (set cells (a * places + b) x) a b ≡ plus (look says z channels places cells a b) (cond (eqb a a && eqb b b) more none)
      at_pair =
          look_here says z (set cells (a * places + b) x) ∙ ap says (get_or-set_same cells (a * places + b) x _ there) ∙ is ∙ (λ i. plus (sym (look_here says z cells) i) (sym (cond-true (eqb a a && eqb b b) more none (and_from _ _ (eq-eqb a a refl) (eq-eqb b b refl))) i))

      go : Same a b c d → look says z channels places (set cells (a * places + b) x) c d ≡ plus (look says z channels places cells c d) (cond (eqb a c && eqb b d) more none)
      go (here e f) = subst (λ (k : ℕ). look says z channels places (set cells (a * places + b) x) c k ≡ plus (look says z channels places cells c k) (cond (eqb a c && eqb b k) more none)) f (subst (λ (k : ℕ). look says z channels places (set cells (a * places + b) x) k b ≡ plus (look says z channels places cells k b) (cond (eqb a k && eqb b b) more none)) e at_pair)
      go (elsewhere other e) = look_other says z x c d other ∙ sym (unit _) ∙ ap (plus (look says z channels places cells c d)) (sym (cond-false _ more none e))

  same : {X : Type 0} (says : Cell → X) (z : X) (plus : X → X → X) (none : X) → ((w : X) → plus w none ≡ w) → (x : Cell) → says x ≡ says (cell_of places cells a b) → (c d : ℕ) → look says z channels places (set cells (a * places + b) x) c d ≡ plus (look says z channels places cells c d) none
  same says z plus none unit x is c d = grown says z plus none none unit x (is ∙ sym (unit _)) c d ∙ ap (plus (look says z channels places cells c d)) (cond_self (eqb a c && eqb b d) none)

  same_test : (says : Cell → Bool) (x : Cell) → says x ≡ says (cell_of places cells a b) → (c d : ℕ) → look says false channels places (set cells (a * places + b) x) c d ≡ (look says false channels places cells c d || false)
  same_test says = same says false ◌||◌ false or-false

  more_test : (says : Cell → Bool) (x : Cell) → says x ≡ true → (c d : ℕ) → look says false channels places (set cells (a * places + b) x) c d ≡ (look says false channels places cells c d || (eqb a c && eqb b d))
  more_test says x is c d = grown says false ◌||◌ false true or-false x (is ∙ sym (or-true _)) c d ∙ ap (λ t. look says false channels places cells c d || t) (cond_test (eqb a c && eqb b d))

  pub entry_added : net_of channels places (set cells (a * places + b) (as_entry (cell_of places cells a b))) ≡ adding (net_of channels places cells) (Entry a b)
  entry_added = net_ext refl refl (more_test (λ x. x.entry) _ refl) (same_test (λ x. x.home) _ refl) (same (λ x. x.ways) [] ◌++◌ [] append-nil _ refl)

  pub home_added : net_of channels places (set cells (a * places + b) (as_home (cell_of places cells a b))) ≡ adding (net_of channels places cells) (Home a b)
  home_added = net_ext refl refl (same_test (λ x. x.entry) _ refl) (more_test (λ x. x.home) _ refl) (same (λ x. x.ways) [] ◌++◌ [] append-nil _ refl)

  pub way_added : (h : ℕ) → net_of channels places (set cells (a * places + b) (with_way (cell_of places cells a b) h)) ≡ adding (net_of channels places cells) (Way a b h)
  way_added h = net_ext refl refl (same_test (λ x. x.entry) _ refl) (same_test (λ x. x.home) _ refl) (grown (λ x. x.ways) [] ◌++◌ [] (h ∷ []) append-nil _ refl)

  pub ways_here : (net_of channels places cells).ways a b ≡ (cell_of places cells a b).ways
  ways_here = look_here (λ x. x.ways) [] cells
