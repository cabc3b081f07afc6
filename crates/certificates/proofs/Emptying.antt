-- Which loads moves and takes can empty.
use Rattle.std.proofs.Common.{◌≡◌, ℕ, zero, suc, ◌+◌, ◌<◌, ◌≤◌, ◌⊎◌, inl, inr, true, List, [], ◌∷◌, length, Ok, refl, arith}
use Rattle.std.proofs.lemmas.List.Elements.{All-nil, All-cons}
use Rattle.networks.specs.Nets.{Net}
use Rattle.networks.specs.Nets as nets
use Rattle.loads.specs.Loads.{Holds, AllowedLoad, Blocked}
use Rattle.loads.specs.Calls.{without_packet, with_packet}
use Rattle.loads.specs.Runs.{Call, MoveOn, Take, Gives, Answer, progress, Step, ends, next}
use Rattle.loads.specs.declared.LoadRecord.{LoadRecord}
use Rattle.loads.proofs.Records.{length_with, length_without}
use Rattle.certificates.specs.Promises.{SoundOfAll, CanBeEmptied, cost_of_load}
use Rattle.certificates.proofs.Allowing.{allowed_without, allowed_moved}
use Rattle.certificates.proofs.Costs.{cost_without, cost_moved}
use Rattle.certificates.proofs.Progress.{Goes, may_take, may_move, goes, some_or_none}
use Rattle.certificates.proofs.Standing.{stands}

-- A load can be emptied if a move or a take leaves one that can.
emptied_after : (n : Net) (l m : List LoadRecord) (call : Call) (a : Answer call) → progress call ≡ true → Gives n l call a m → CanBeEmptied n m → CanBeEmptied n l
emptied_after n l m call a p gives e =
    let s : Step = record { call = call; answer = a } in
    (s ∷ e.0, e.1, All-cons (λ (s : Step). progress s.call ≡ true) s e.0 p e.2, next gives e.3, e.4)

-- Where each need has a way with a smaller number, every allowed load can be emptied: each packet that is taken or moved to a channel
-- with a smaller number lowers the sum of the packets' numbers.
module _ (n : Net) (ok : nets.Conditions n) (f : ℕ → ℕ) (low : SoundOfAll n f) where
  abbrev number : ℕ → ℕ → ℕ
  number c d = f c

  -- the loads that cost less can be emptied
  abbrev Below : ℕ → Type 0
  Below bound = (m : List LoadRecord) → n.channels ≤ length m → AllowedLoad n m → cost_of_load number n m < bound → CanBeEmptied n m

  emptied_below : (bound : ℕ) → Below bound
  emptied_below zero l long allowed lt = absurd (omega arith)
  emptied_below (suc b) l long allowed lt = go (emptied_below b) (some_or_none n l)
    where
      onward : Below b → Goes n f l → CanBeEmptied n l
      onward again (may_take c d may) =
          let m : List LoadRecord = without_packet l c in
          let less = cost_without n number l c d long may.stands in
          emptied_after n l m (Take c) (Ok d) refl (may, refl) (again m (omega (arith, length_without l c)) (allowed_without n l c allowed) (omega arith))
      onward again (may_move c k d h may smaller) =
          let m : List LoadRecord = without_packet (with_packet l h d) c in
          let less = cost_moved n number ok l c k d h may in
          emptied_after n l m (MoveOn c k) (Ok tt) refl (d, h, may, refl) (again m (omega (arith, length_without (with_packet l h d) c, length_with l h d)) (allowed_moved n ok l c k d h allowed may) (omega arith))

      go : Below b → ((c : ℕ) × Holds n l c) ⊎ ((c : ℕ) → Holds n l c → ⊥) → CanBeEmptied n l
      go again (inl some) = onward again (goes n ok f low l long allowed some.0 some.1)
      go again (inr none) = ([], l, All-nil (λ (s : Step). progress s.call ≡ true), ends, none)

  pub emptied : (l : List LoadRecord) → n.channels ≤ length l → AllowedLoad n l → CanBeEmptied n l
  emptied l long allowed = emptied_below (cost_of_load number n l + 1) l long allowed (omega arith)

-- No blocked load can be emptied, since no call moves its packets.
pub not_emptied : (n : Net) (ours : List LoadRecord) → Blocked n ours → CanBeEmptied n ours → ⊥
not_emptied n ours blocked e =
    let p = blocked.packet in
    e.4 p.0 (p.1.0, stands n ours blocked ours e.1 e.0 (λ c d at. at) e.3 p.0 p.1.0 p.1.1)
