-- What the verdict, the numbers, the load that is written and the longest routes of a network promise of packets at work. The load
-- that is written is called ours.
use Rattle.std.specs.Prelude.{◌≡◌, ℕ, ◌+◌, ◌<◌, ◌≤◌, ◌↔◌, Bool, true, false, List, length, Option, Some, None, Ok, Err}
use Rattle.std.specs.List.{All, sum_by, range_with_len}
use Rattle.networks.specs.Allowed.{Allowed}
use Rattle.networks.specs.Nets.{Net, Way}
use Rattle.loads.specs.Loads.{packet, At, Holds, AllowedLoad, Blocked}
use Rattle.loads.specs.Runs.{Call, Put, MoveOn, Take, Answer, Gives, Step, Run, OneRun, accepted, progress, progress_made}
use Rattle.loads.specs.declared.LoadRecord.{LoadRecord}
use Rattle.checks.specs.declared.outcome.Verdict.{Verdict}
use Rattle.checks.specs.declared.outcome.Verdict.TheVariants as verdicts

-- no channel holds a packet
abbrev pub Emptied : Net → List LoadRecord → Type 0
Emptied n l = (c : ℕ) → Holds n l c → ⊥

-- Some list of moves and takes empties the load.
abbrev pub CanBeEmptied : Net → List LoadRecord → Type 0
CanBeEmptied n l = (steps : List Step) × (m : List LoadRecord) × All (λ (s : Step). progress s.call ≡ true) steps × Run n l steps m × Emptied n m

-- each packet of our load stands in its channel
abbrev pub OursStand : Net → List LoadRecord → List LoadRecord → Type 0
OursStand n ours l = (c d : ℕ) → At n ours c d → At n l c d

-- A numbering of all channels is sound if each pair that packets can reach, and that is not home, has a way to a channel with a smaller
-- number.
abbrev pub SoundOfAll : Net → (ℕ → ℕ) → Type 0
SoundOfAll n number = (c d : ℕ) → Allowed n c d → n.home c d ≡ false → (h : ℕ) × Way n c d h × (number h < number c)

-- some move or take would be accepted
abbrev pub CanProgress : Net → List LoadRecord → Type 0
CanProgress n l = (call : Call) × (a : Answer call) × (m : List LoadRecord) × (progress call ≡ true) × (accepted call a ≡ true) × Gives n l call a m

-- What a packet may cost: the moves of the longest route of its pair, and one for being taken.
module _ (longest : ℕ → ℕ → ℕ) where
  abbrev pub cost : ℕ → Option ℕ → ℕ
  cost c None = 0
  cost c (Some d) = longest c d + 1

  -- the packets of a load together
  abbrev pub cost_of_load : Net → List LoadRecord → ℕ
  cost_of_load n l = sum_by (λ c. cost c (packet l c)) (range_with_len 0 n.channels)

  -- the packet that a call puts, if it does
  abbrev pub cost_of_call : (call : Call) → Answer call → ℕ
  cost_of_call (Put c d) (Ok _) = longest c d + 1
  cost_of_call (Put c d) (Err _) = 0
  cost_of_call (MoveOn c k) a = 0
  cost_of_call (Take c) a = 0

  -- the packets put in a run together
  abbrev pub cost_of_run : List Step → ℕ
  cost_of_run steps = sum_by (λ (s : Step). cost_of_call s.call s.answer) steps

-- The promises.
pub record Promises (n : Net) (number : ℕ → ℕ) (ours : List LoadRecord) (longest : ℕ → ℕ → ℕ) (verdict : Verdict) (arriving : Bool) : Type 0 where
  -- Every list of calls has exactly one run from every load.
  pub one_run : (l : List LoadRecord) (calls : List Call) → OneRun n l calls
  -- The verdict is free exactly if every allowed load, with a record for each channel or more, can be emptied by moves and takes.
  pub empties : (verdict ≡ verdicts.Free) ↔ ((l : List LoadRecord) → n.channels ≤ length l → AllowedLoad n l → CanBeEmptied n l)
  -- If the verdict is blocked, then in our load, and in every load that has the packets of ours, each of these is still in its channel
  -- after any list of calls.
  pub stands : verdict ≡ verdicts.Blocked → (l m : List LoadRecord) (steps : List Step) → OursStand n ours l → Run n l steps m → OursStand n ours m
  -- Whatever sound numbering of all channels anyone brings: the verdict is free, our numbers are sound too, and none of them is greater
  -- than the number that this numbering gives to the channel.
  pub least : (other : ℕ → ℕ) → SoundOfAll n other → (verdict ≡ verdicts.Free) × SoundOfAll n number × ((c : ℕ) → c < n.channels → number c ≤ other c)
  -- Whatever blocked load anyone brings: the verdict is blocked, and so is our load, which has a packet wherever that one has.
  pub greatest : (other : List LoadRecord) → Blocked n other → (verdict ≡ verdicts.Blocked) × Blocked n ours × ((c : ℕ) → Holds n other c → Holds n ours c)
  -- In a blocked load no move or take would be accepted.
  pub waits : (other : List LoadRecord) → Blocked n other → CanProgress n other → ⊥
  -- If the verdict is free and the network arriving, then after any list of calls on an allowed load: the accepted moves and takes are
  -- at most what the packets that stood there and those that were put cost together; and if a packet stands, some move or take would
  -- be accepted.
  pub comes_home : verdict ≡ verdicts.Free → arriving ≡ true → (l m : List LoadRecord) (steps : List Step) → n.channels ≤ length l → AllowedLoad n l → Run n l steps m → (progress_made steps ≤ cost_of_load longest n l + cost_of_run longest steps) × ((c : ℕ) → Holds n m c → CanProgress n m)
