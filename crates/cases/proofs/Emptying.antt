-- Whether calls empty a load in order.
use Rattle.std.proofs.Common.{◌≡◌, ℕ, zero, suc, ◌≤◌, inl, inr, Bool, true, false, not, ◌&&◌, ◌||◌, eqb, eq-eqb, ltb, leb, List, [], ◌∷◌, length, map, replicate, Option, Some, None, Ok, is_some, is_none, slice_index, refl, ap, ◌∙◌, arith}
use Rattle.std.specs.List.{list_all}
use Rattle.std.specs.Option.{unwrap_or}
use Rattle.std.proofs.lemmas.Bool.{and_parts, both_ways, ltb-true, lt-ltb, leb-true, not-true, or_right, or_left, and_from}
use Rattle.networks.specs.Nets.{Net}
use Rattle.loads.specs.Loads.{packet, nothing, Holds}
use Rattle.loads.specs.Calls.{MayMove, MayTake, with_packet, without_packet}
use Rattle.loads.specs.Runs.{Call, Put, MoveOn, Take, Step}
use Rattle.loads.specs.declared.LoadRecord.{LoadRecord}
use Rattle.loads.proofs.Records.{length_with, length_without}
use Rattle.certificates.specs.Promises.{Emptied}
use Rattle.drains.specs.Orders.{Before, First, FirstSmaller, InOrder, home, away, ends, next}
use Rattle.cases.proofs.Ranges.{each_below, each_at, follows}

-- the place of the packet in the channel
abbrev place : List LoadRecord → ℕ → ℕ
place l c = unwrap_or (packet l c) 0

-- what tests of a packet say
stands : (p : Option ℕ) → is_some p ≡ true → p ≡ Some (unwrap_or p 0)
stands None e = absurd (cc)
stands (Some d) e = refl

empty : (p : Option ℕ) → is_none p ≡ true → p ≡ None
empty None e = refl
empty (Some d) e = absurd (cc)

module _ (n : Net) (g : ℕ → ℕ) where
  abbrev comes_before : ℕ → ℕ → Bool
  comes_before e c = ltb (g e) (g c) || (eqb (g e) (g c) && ltb e c)

  -- the channel holds the first packet
  abbrev first_fits : List LoadRecord → ℕ → Bool
  first_fits l c = ltb c n.channels && (is_some (packet l c) && each_below (λ e. not (comes_before e c) || is_none (packet l e)) n.channels)

  -- the channel to which the way at a position leads
  abbrev ahead : List LoadRecord → ℕ → ℕ → ℕ
  ahead l c k = slice_index (n.ways c (place l c)) k

  -- that way is the first to a smaller number, and its channel is empty
  abbrev way_fits : List LoadRecord → ℕ → ℕ → Bool
  way_fits l c k =
      ltb k (length (n.ways c (place l c))) && (ltb (g (ahead l c k)) (g c) && (each_below (λ j. leb (g c) (g (ahead l c j))) k && is_none (packet l (ahead l c k))))

  abbrev take_fits : List LoadRecord → ℕ → Bool
  take_fits l c = first_fits l c && n.home c (place l c)

  abbrev move_fits : List LoadRecord → ℕ → ℕ → Bool
  move_fits l c k = first_fits l c && (not (n.home c (place l c)) && way_fits l c k)

  abbrev moved : List LoadRecord → ℕ → ℕ → List LoadRecord
  moved l c k = without_packet (with_packet l (ahead l c k) (place l c)) c

  abbrev pub emptied_by : List LoadRecord → List Call → Bool
  emptied_by l [] = list_all (λ (r : LoadRecord). is_none r.place) l
  emptied_by l (Put c d ∷ calls) = false
  emptied_by l (MoveOn c k ∷ calls) = move_fits l c k && emptied_by (moved l c k) calls
  emptied_by l (Take c ∷ calls) = take_fits l c && emptied_by (without_packet l c) calls

  -- the calls as a run in order
  pub record Ran (l : List LoadRecord) (calls : List Call) : Type 0 where
    pub steps : List Step
    pub end : List LoadRecord
    pub order : InOrder n g l steps end
    pub made : map (λ (s : Step). s.call) steps ≡ calls
    pub bare : list_all (λ (r : LoadRecord). is_none r.place) end ≡ true
    pub long : length end ≡ length l

  before_is : (e c : ℕ) → Before g e c → comes_before e c ≡ true
  before_is e c (inl x) = or_left _ _ (lt-ltb _ _ x)
  before_is e c (inr x) = or_right _ _ (and_from _ _ (eq-eqb _ _ x.0) (lt-ltb _ _ x.1))

  first : (l : List LoadRecord) (c : ℕ) → first_fits l c ≡ true → First n g l c (place l c)
  first l c e =
      let x = and_parts (ltb c n.channels) _ e in
      let y = and_parts (is_some (packet l c)) _ x.1 in
      record { stands = (ltb-true _ _ x.0, stands (packet l c) y.0); none_before = λ e before holds. none_before e before holds y.1 }
    where
      none_before : (e : ℕ) → Before g e c → Holds n l e → each_below (λ e. not (comes_before e c) || is_none (packet l e)) n.channels ≡ true → ⊥
      none_before e before holds all =
          let bare = empty (packet l e) (follows _ _ (each_at (λ e. not (comes_before e c) || is_none (packet l e)) n.channels all e holds.1.0) (before_is e c before)) in
          let full = holds.1.1 in
          cc (bare, full)

  smaller : (l : List LoadRecord) (c k : ℕ) → way_fits l c k ≡ true → FirstSmaller n g c (place l c) k (ahead l c k) × (packet l (ahead l c k) ≡ None)
  smaller l c k e =
      let x = and_parts (ltb k (length (n.ways c (place l c)))) _ e in
      let y = and_parts (ltb (g (ahead l c k)) (g c)) _ x.1 in
      let z = and_parts (each_below (λ j. leb (g c) (g (ahead l c j))) k) (is_none (packet l (ahead l c k))) y.1 in (
        record { way = (ltb-true _ _ x.0, refl); smaller = ltb-true _ _ y.0; none_before = λ j h m w. rw w.1 (leb-true _ _ (each_at (λ j. leb (g c) (g (ahead l c j))) k z.0 j m)) },
        empty (packet l (ahead l c k)) z.1,
      )

  pub ran : (l : List LoadRecord) (calls : List Call) → n.channels ≤ length l → emptied_by l calls ≡ true → Ran l calls
  ran l [] long e = record { steps = []; end = l; order = ends; made = refl; bare = e; long = refl }
  ran l (Put c d ∷ calls) long e = absurd (both_ways false refl e)
  ran l (MoveOn c k ∷ calls) long e =
      let d = place l c in
      let h = ahead l c k in
      let x = and_parts (move_fits l c k) (emptied_by (moved l c k) calls) e in
      let y = and_parts (first_fits l c) (not (n.home c d) && way_fits l c k) x.0 in
      let z = and_parts (not (n.home c d)) (way_fits l c k) y.1 in
      let here = first l c y.0 in
      let far = not-true (n.home c d) z.0 in
      let on = smaller l c k z.1 in
      let may : MayMove n l c k d h = record { records = long; stands = here.stands; away = far; way = on.0.way; empty = on.1 } in
      let same = length_without (with_packet l h d) c ∙ length_with l h d in
      let rest = ran (moved l c k) calls (omega (arith, long, same)) x.1 in
      let s : Step = record { call = MoveOn c k; answer = Ok tt } in
      record {
        steps = s ∷ rest.steps;
        end = rest.end;
        order = next (away c d k h here far on.0) refl (d, h, may, refl) rest.order;
        made = ap (λ cs. MoveOn c k ∷ cs) rest.made;
        bare = rest.bare;
        long = rest.long ∙ same;
      }
  ran l (Take c ∷ calls) long e =
      let d = place l c in
      let x = and_parts (take_fits l c) (emptied_by (without_packet l c) calls) e in
      let y = and_parts (first_fits l c) (n.home c d) x.0 in
      let here = first l c y.0 in
      let may : MayTake n l c d = record { records = long; stands = here.stands; home = y.1 } in
      let same = length_without l c in
      let rest = ran (without_packet l c) calls (omega (arith, long, same)) x.1 in
      let s : Step = record { call = Take c; answer = Ok d } in
      record {
        steps = s ∷ rest.steps;
        end = rest.end;
        order = next (home c d here y.1) refl (may, refl) rest.order;
        made = ap (λ cs. Take c ∷ cs) rest.made;
        bare = rest.bare;
        long = rest.long ∙ same;
      }

-- a load without packets
pub bare_is : (l : List LoadRecord) → list_all (λ (r : LoadRecord). is_none r.place) l ≡ true → l ≡ replicate (length l) nothing
bare_is [] e = refl
bare_is (r ∷ l) e =
    let x = and_parts (is_none r.place) (list_all (λ (r : LoadRecord). is_none r.place) l) e in
    let here : r ≡ nothing = ap (λ (p : Option ℕ). record { place = p }) (empty r.place x.0) in
    let rest = bare_is l x.1 in
    cc

packet_none : (k c : ℕ) → packet (replicate k nothing) c ≡ None
packet_none zero c = refl
packet_none (suc k) zero = refl
packet_none (suc k) (suc c) = packet_none k c

pub bare_emptied : (n : Net) (k : ℕ) → Emptied n (replicate k nothing)
bare_emptied n k c holds = let full = holds.1.1 in let none = packet_none k c in cc (full, none)
