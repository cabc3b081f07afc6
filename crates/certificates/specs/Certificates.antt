-- What certifying a network gives.
use Rattle.std.specs.Prelude.{◌≡◌, ℕ, ◌↔◌, nat_lt, List, [], ◌∷◌, length, Some, None, Ok, Err, Result, slice_index}
use Rattle.networks.specs.Allowed.{pairs, said}
use Rattle.networks.specs.Cleared.{AllZero}
use Rattle.networks.specs.Nets.{Net}
use Rattle.networks.specs.Rooms.{Room, first_short}
use Rattle.networks.specs.declared.faults.Buffer.{Buffer}
use Rattle.networks.specs.declared.faults.Buffer.TheVariants as buffer
use Rattle.networks.specs.declared.faults.StudyFault.{StudyFault}
use Rattle.networks.specs.declared.faults.StudyFault.TheVariants.{Short}
use Rattle.numbering.specs.Numbers.{Sound}
use Rattle.escapes.specs.Escaping.{escape}
use Rattle.loads.specs.declared.LoadRecord.{LoadRecord}
use Rattle.checks.specs.Checks.{Checked}
use Rattle.routes.specs.Outcomes.{Routed, number_of}
use Rattle.certificates.specs.Promises.{SoundOfAll, Promises}
use Rattle.certificates.specs.declared.Certificate.{Certificate}

-- The check and the routes of the network, and what they promise. That a numbering of all channels is sound is that it is sound for the
-- release system of the channels by the table that is written.
pub record Certified (n : Net) (allowed allowed' numbers numbers' : List ℕ) (load load' : List LoadRecord) (longest longest' : List ℕ) (a : Certificate) : Type 0 where
  pub checked : Checked n allowed allowed' numbers numbers' load load' a.check
  pub routed : Routed n allowed allowed' longest longest' a.routes
  pub soundness : (number : ℕ → ℕ) → SoundOfAll n number ↔ Sound (escape n (said allowed')) (λ c. nat_lt c n.channels) number
  pub promises : Promises n (slice_index numbers') load' (number_of n longest') a.check.verdict a.routes.arriving

-- The buffers that are lent: a byte for each pair, a number for each channel and one for each pair, a record for each channel, and a
-- word of work for each pair. Both lists of numbers are told by one field.
abbrev pub rooms : Net → ℕ → ℕ → ℕ → ℕ → ℕ → List Room
rooms n allowed numbers load longest work =
    record { buffer = buffer.Allowed; needed = pairs n; given = allowed }
    ∷ (record { buffer = buffer.Numbers; needed = n.channels; given = numbers }
    ∷ (record { buffer = buffer.Numbers; needed = pairs n; given = longest }
    ∷ (record { buffer = buffer.Load; needed = n.channels; given = load } ∷ (record { buffer = buffer.Work; needed = pairs n; given = work } ∷ []))))

-- The certificate, or the first buffer that is too short, and then the other buffers are as they were.
abbrev pub Certifies : Net → List ℕ → List ℕ → List LoadRecord → List ℕ → ℕ → Result Certificate StudyFault → List ℕ → List ℕ → List LoadRecord → List ℕ → Type 0
Certifies n allowed numbers load longest work (Ok a) allowed' numbers' load' longest' =
    (first_short (rooms n (length allowed) (length numbers) (length load) (length longest) work) ≡ None) × Certified n allowed allowed' numbers numbers' load load' longest longest' a
Certifies n allowed numbers load longest work (Err f) allowed' numbers' load' longest' =
    (b : Buffer) × (first_short (rooms n (length allowed) (length numbers) (length load) (length longest) work) ≡ Some b) × (f ≡ Short b) × (allowed' ≡ allowed) × (numbers' ≡ numbers) × (load' ≡ load) × (longest' ≡ longest)

-- What certifying leaves: its answer, and what stands in the buffers and in the work area.
pub record Left : Type 0 where
  pub answer : Result Certificate StudyFault
  pub allowed : List ℕ
  pub numbers : List ℕ
  pub load : List LoadRecord
  pub longest : List ℕ
  pub work : List ℕ

-- Certifying may leave this of buffers and a work area that held these. Lent buffers keep their lengths.
pub record Leaves (n : Net) (allowed numbers : List ℕ) (load : List LoadRecord) (longest work : List ℕ) (x : Left) : Type 0 where
  pub certifies : Certifies n allowed numbers load longest (length work) x.answer x.allowed x.numbers x.load x.longest
  pub cleared : AllZero x.work
  pub bytes : length x.allowed ≡ length allowed
  pub each : length x.numbers ≡ length numbers
  pub records : length x.load ≡ length load
  pub pairs : length x.longest ≡ length longest
  pub words : length x.work ≡ length work
