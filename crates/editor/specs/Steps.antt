-- What the parts of the entry give, to which no fault is lent; cited by private functions only.
use Rattle.std.specs.Prelude.{◌≡◌, ℕ, ◌⊎◌, List, Some, None, Ok, Err, Result}
use Rattle.networks.specs.Nets.{Net}
use Rattle.networks.specs.declared.faults.Buffer.{Buffer}
use Rattle.networks.specs.declared.faults.StudyFault.{StudyFault}
use Rattle.networks.specs.declared.faults.StudyFault.TheVariants.{Table, Short}
use Rattle.networks.specs.declared.faults.TableFault.TheVariants.{NoMemory}
use Rattle.netfiles.specs.Reading.{Wanting}
use Rattle.checks.specs.declared.outcome.Verdict.{Verdict}
use Rattle.editor.specs.Entry.{Buffers, short_of, Takes, Found, Reason}

-- The verdict on a network, or the first buffer that is too short for it.
abbrev pub OfNet : Net → Buffers → ℕ → Result Verdict StudyFault → Buffers → Type 0
OfNet n before work (Ok v) after = (short_of n before work ≡ None) × Found n before v after
OfNet n before work (Err f) after = (b : Buffer) × (short_of n before work ≡ Some b) × (f ≡ Short b) × (after ≡ before)

-- The verdict on the network of a file, or why there is none.
abbrev pub OfFile : List ℕ → Buffers → ℕ → Result Verdict StudyFault → Buffers → Type 0
OfFile file before work (Ok v) after = (n : Net) × Takes file n × (short_of n before work ≡ None) × Found n before v after
OfFile file before work (Err f) after = (Reason file before work f ⊎ (Wanting file NoMemory × (f ≡ Table NoMemory))) × (after ≡ before)
