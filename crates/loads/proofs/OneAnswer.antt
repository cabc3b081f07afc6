-- A call has one answer, and leaves one load.
use Rattle.std.proofs.Common.{◌≡◌, ℕ, ◌≤◌, nat_eq, cond, List, length, Ok, Err, Result, refl, sym, ap, ◌∙◌, arith}
use Rattle.std.specs.Bool.{⊤}
use Rattle.networks.specs.Nets.{Net, Conditions}
use Rattle.networks.specs.declared.faults.Buffer.TheVariants.{Load}
use Rattle.networks.specs.declared.faults.StudyFault.TheVariants.{Short}
use Rattle.loads.specs.Faults.{load_parts}
use Rattle.loads.specs.Calls.{Told, MayPut, MayMove, MayTake, AgainstPut, AgainstMove, AgainstTake, Puts, Moves, Takes, Only, short, no_channel, no_place, no_entry, full, taken, empty, home, no_way, away}
use Rattle.networks.proofs.Inside.{entry_inside}
use Rattle.loads.proofs.Counts.{not_full}
use Rattle.loads.proofs.Refusals.{same_place}
use Rattle.loads.specs.declared.LoadRecord.{LoadRecord}
use Rattle.loads.specs.declared.faults.LoadFault.{LoadFault}
use Rattle.loads.specs.declared.faults.LoadFault.TheVariants.{Study, NoSuchChannel, NoSuchPlace, NoEntry, ChannelTaken, ChannelEmpty, Home, NotHome, NoSuchWay, WayTaken}

-- the refusal of a call that has the number
abbrev by_number : ℕ → LoadFault
by_number k = cond (nat_eq k 20) (Study (Short Load)) (cond (nat_eq k 30) NoSuchChannel (cond (nat_eq k 31) NoSuchPlace (cond (nat_eq k 32) NoEntry (cond (nat_eq k 33) ChannelTaken (cond (nat_eq k 34) ChannelEmpty (cond (nat_eq k 35) Home (cond (nat_eq k 36) NotHome (cond (nat_eq k 37) NoSuchWay WayTaken))))))))

-- Where the number tells the refusal, one refusal is told.
one_told : (Against : LoadFault → Type 0) → ((f : LoadFault) → Against f → f ≡ by_number (load_parts f).number) → (f g : LoadFault) → Told Against f → Told Against g → g ≡ f
one_told Against known f g x y =
    let e : (load_parts g).number ≡ (load_parts f).number = omega (arith, x.lowest g y.applies, y.lowest f x.applies) in
    known g y.applies ∙ ap by_number e ∙ sym (known f x.applies)

module _ (n : Net) (ok : Conditions n) (l : List LoadRecord) where
  put_known : (c d : ℕ) (f : LoadFault) → AgainstPut n l c d f → f ≡ by_number (load_parts f).number
  put_known c d f (short s) = refl
  put_known c d f a = refl

  move_known : (c k : ℕ) (f : LoadFault) → AgainstMove n l c k f → f ≡ by_number (load_parts f).number
  move_known c k f (short s) = refl
  move_known c k f a = refl

  take_known : (c : ℕ) (f : LoadFault) → AgainstTake n l c f → f ≡ by_number (load_parts f).number
  take_known c f (short s) = refl
  take_known c f a = refl

  -- nothing is against a call that may be
  put_apart : (c d : ℕ) → MayPut n l c d → (f : LoadFault) → AgainstPut n l c d f → ⊥
  put_apart c d may f (short s) = omega (arith, may.records)
  put_apart c d may f (no_channel s) = omega (arith, (entry_inside n ok c d may.entry).channel)
  put_apart c d may f (no_place s) = omega (arith, (entry_inside n ok c d may.entry).place)
  put_apart c d may f (no_entry e) = cc (e, may.entry)
  put_apart c d may f (full e) = not_full n l c may.records (entry_inside n ok c d may.entry).channel may.empty e
  put_apart c d may f (taken h) = cc (h.1.1, may.empty)

  move_apart : (c k d h : ℕ) → MayMove n l c k d h → (f : LoadFault) → AgainstMove n l c k f → ⊥
  move_apart c k d h may f (short s) = omega (arith, may.records)
  move_apart c k d h may f (no_channel s) = omega (arith, may.stands.0)
  move_apart c k d h may f (empty e) = cc (e, may.stands.1)
  move_apart c k d h may f (home x at e) = cc (e, may.away, same_place n l c d x may.stands at)
  move_apart c k d h may f (no_way x at w) = let w' : length (n.ways c d) ≤ k = rw (same_place n l c d x may.stands at) at w in omega (arith, w', may.way.0)
  move_apart c k d h may f (taken x y at w t) = cc (same_place n l c d x may.stands at, w.1, may.way.1, t.1.1, may.empty)

  take_apart : (c d : ℕ) → MayTake n l c d → (f : LoadFault) → AgainstTake n l c f → ⊥
  take_apart c d may f (short s) = omega (arith, may.records)
  take_apart c d may f (no_channel s) = omega (arith, may.stands.0)
  take_apart c d may f (empty e) = cc (e, may.stands.1)
  take_apart c d may f (away x at e) = cc (e, may.home, same_place n l c d x may.stands at)

  pub puts_one : (c d : ℕ) (a b : Result ⊤ LoadFault) (m o : List LoadRecord) → Puts n l c d a m → Puts n l c d b o → (b ≡ a) × (o ≡ m)
  puts_one c d (Ok _) (Ok _) m o x y = (refl, y.1 ∙ sym x.1)
  puts_one c d (Ok _) (Err g) m o x y = absurd (put_apart c d x.0 g y.0.applies)
  puts_one c d (Err f) (Ok _) m o x y = absurd (put_apart c d y.0 f x.0.applies)
  puts_one c d (Err f) (Err g) m o x y = (ap Err (one_told (AgainstPut n l c d) (put_known c d) f g x.0 y.0), y.1 ∙ sym x.1)

  pub moves_one : (c k : ℕ) (a b : Result ⊤ LoadFault) (m o : List LoadRecord) → Moves n l c k a m → Moves n l c k b o → (b ≡ a) × (o ≡ m)
  moves_one c k (Ok _) (Ok _) m o x y =
      let d : y.0 ≡ x.0 = same_place n l c x.0 y.0 x.2.stands y.2.stands in
      let h : y.1 ≡ x.1 = cc (d, x.2.way.1, y.2.way.1) in
      (refl, y.3 ∙ rw (d, h) (sym x.3))
  moves_one c k (Ok _) (Err g) m o x y = absurd (move_apart c k x.0 x.1 x.2 g y.0.applies)
  moves_one c k (Err f) (Ok _) m o x y = absurd (move_apart c k y.0 y.1 y.2 f x.0.applies)
  moves_one c k (Err f) (Err g) m o x y = (ap Err (one_told (AgainstMove n l c k) (move_known c k) f g x.0 y.0), y.1 ∙ sym x.1)

  pub takes_one : (c : ℕ) (a b : Result ℕ LoadFault) (m o : List LoadRecord) → Takes n l c a m → Takes n l c b o → (b ≡ a) × (o ≡ m)
  takes_one c (Ok d) (Ok e) m o x y = (ap Ok (same_place n l c d e x.0.stands y.0.stands), y.1 ∙ sym x.1)
  takes_one c (Ok d) (Err g) m o x y = absurd (take_apart c d x.0 g y.0.applies)
  takes_one c (Err f) (Ok d) m o x y = absurd (take_apart c d y.0 f x.0.applies)
  takes_one c (Err f) (Err g) m o x y = (ap Err (one_told (AgainstTake n l c) (take_known c) f g x.0 y.0), y.1 ∙ sym x.1)

  -- so what a call gives it gives alone
  pub only_put : (c d : ℕ) (a : Result ⊤ LoadFault) (m : List LoadRecord) → Puts n l c d a m → Only (Puts n l c d) a m
  only_put c d a m x = record { does = x; only = λ b o y. puts_one c d a b m o x y }

  pub only_move : (c k : ℕ) (a : Result ⊤ LoadFault) (m : List LoadRecord) → Moves n l c k a m → Only (Moves n l c k) a m
  only_move c k a m x = record { does = x; only = λ b o y. moves_one c k a b m o x y }

  pub only_take : (c : ℕ) (a : Result ℕ LoadFault) (m : List LoadRecord) → Takes n l c a m → Only (Takes n l c) a m
  only_take c a m x = record { does = x; only = λ b o y. takes_one c a b m o x y }
