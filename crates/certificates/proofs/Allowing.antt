-- Calls keep loads allowed, and as long as they were.
use Rattle.std.proofs.Common.{◌≡◌, ℕ, ◌<◌, List, [], ◌∷◌, length, Some, Ok, Err, ap, ◌∙◌, refl, arith}
use native.Mathlib.Decide.{ℕ_discrete}
use Rattle.networks.specs.Allowed.{Allowed, enters, moves}
use Rattle.networks.specs.Nets.{Net, Way}
use Rattle.networks.specs.Nets as nets
use Rattle.loads.specs.Loads.{packet, At, AllowedLoad}
use Rattle.loads.specs.Calls.{with_packet, without_packet, MayMove}
use Rattle.loads.specs.Runs.{Call, Put, MoveOn, Take, Answer, Gives, Step, Run, ends, next}
use Rattle.loads.specs.declared.LoadRecord.{LoadRecord}
use Rattle.loads.proofs.Records.{length_with, length_without, packet_with_same, packet_with_other, packet_without_same, packet_without_other}
use Rattle.networks.proofs.Inside.{allowed_inside}

-- one call leaves as many records
length_call : (n : Net) (l m : List LoadRecord) (call : Call) (a : Answer call) → Gives n l call a m → length m ≡ length l
length_call n l m (Put c d) (Ok _) (may, same) = ap length same ∙ length_with l c d
length_call n l m (Put c d) (Err _) (told, same) = ap length same
length_call n l m (MoveOn c k) (Ok _) (d, h, may, same) = ap length same ∙ length_without (with_packet l h d) c ∙ length_with l h d
length_call n l m (MoveOn c k) (Err _) (told, same) = ap length same
length_call n l m (Take c) (Ok d) (may, same) = ap length same ∙ length_without l c
length_call n l m (Take c) (Err _) (told, same) = ap length same

pub keeps_length : (n : Net) (l m : List LoadRecord) (steps : List Step) → Run n l steps m → length m ≡ length l
keeps_length n l m [] ends = refl
keeps_length n l m (s ∷ ss) (next {m = o} gives run) = keeps_length n o m ss run ∙ length_call n l o s.call s.answer gives

module _ (n : Net) where
  -- the load with a packet for an allowed pair, and with one packet less
  allowed_with : (l : List LoadRecord) (c d : ℕ) → c < length l → AllowedLoad n l → Allowed n c d → AllowedLoad n (with_packet l c d)
  allowed_with l c d long allowed new e f at = go (ℕ_discrete e c)
    where
      go : Dec (e ≡ c) → Allowed n e f
      go (yes same) =
          let here : packet (with_packet l c d) c ≡ Some f = rw same at at.1 in
          let one : f ≡ d = cc (here, packet_with_same l c d long) in
          rw (same, one) new
      go (no ne) = let at' : At n l e f = rw (packet_with_other l c d e ne) at at in allowed e f at'

  pub allowed_without : (l : List LoadRecord) (c : ℕ) → AllowedLoad n l → AllowedLoad n (without_packet l c)
  allowed_without l c allowed e f at = go (ℕ_discrete e c)
    where
      go : Dec (e ≡ c) → Allowed n e f
      go (yes same) =
          let here : packet (without_packet l c) c ≡ Some f = rw same at at.1 in
          absurd (cc (here, packet_without_same l c))
      go (no ne) = let at' : At n l e f = rw (packet_without_other l c e ne) at at in allowed e f at'

  module _ (ok : nets.Conditions n) where
    -- the load after a move
    pub allowed_moved : (l : List LoadRecord) (c k d h : ℕ) → AllowedLoad n l → MayMove n l c k d h → AllowedLoad n (without_packet (with_packet l h d) c)
    allowed_moved l c k d h allowed may =
        let new : Allowed n h d = moves (allowed c d may.stands) may.away (k, may.way.0, may.way.1) in
        allowed_without (with_packet l h d) c (allowed_with l h d (omega (arith, (allowed_inside n ok new).channel, may.records)) allowed new)

    -- one call
    pub allowed_call : (l m : List LoadRecord) (call : Call) (a : Answer call) → AllowedLoad n l → Gives n l call a m → AllowedLoad n m
    allowed_call l m (Put c d) (Ok _) allowed (may, same) =
        let new : Allowed n c d = enters may.entry in
        rw same (allowed_with l c d (omega (arith, (allowed_inside n ok new).channel, may.records)) allowed new)
    allowed_call l m (Put c d) (Err _) allowed (told, same) = rw same allowed
    allowed_call l m (MoveOn c k) (Ok _) allowed (d, h, may, same) = rw same (allowed_moved l c k d h allowed may)
    allowed_call l m (MoveOn c k) (Err _) allowed (told, same) = rw same allowed
    allowed_call l m (Take c) (Ok d) allowed (may, same) = rw same (allowed_without l c allowed)
    allowed_call l m (Take c) (Err _) allowed (told, same) = rw same allowed

    pub keeps_allowed : (l m : List LoadRecord) (steps : List Step) → AllowedLoad n l → Run n l steps m → AllowedLoad n m
    keeps_allowed l m [] allowed ends = allowed
    keeps_allowed l m (s ∷ ss) allowed (next {m = o} gives run) = keeps_allowed o m ss (allowed_call l o s.call s.answer allowed gives) run
