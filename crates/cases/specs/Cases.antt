-- Worked cases: networks with what is stated of them.
use Rattle.std.specs.Prelude.{◌≡◌, ℕ, List, length, map, replicate, slice_index}
use Rattle.std.specs.List.{All}
use Rattle.records.specs.declared.Record.{Record}
use Rattle.records.specs.declared.Size.{Size}
use Rattle.networks.specs.Allowed.{pairs}
use Rattle.networks.specs.Nets.{Net, Conditions}
use Rattle.tables.specs.Drawn.{drawn}
use Rattle.spidergon.specs.Rings.{spidergon}
use Rattle.loads.specs.Loads.{nothing, AllowedLoad}
use Rattle.loads.specs.Runs.{Call, Step}
use Rattle.loads.specs.declared.LoadRecord.{LoadRecord}
use Rattle.certificates.specs.Certificates.{Certified}
use Rattle.certificates.specs.declared.Certificate.{Certificate}
use Rattle.drains.specs.Drains.{Drained}

-- What says which network it is: a size and records draw it, or it is the Spidergon of a size.
pub data Source : Type 0 where
  Records : Size → List Record → Source
  Ring : ℕ → Source

abbrev pub net_of : Source → Net
net_of (Records s rs) = drawn s rs
net_of (Ring n) = spidergon n

-- a load, and the calls that empty it in order
pub record Emptying : Type 0 where
  pub load : List LoadRecord
  pub calls : List Call

-- what stands in the buffers of a certificate: which pairs are allowed, the numbers of the channels, a load, and the numbers of the pairs
pub record Buffers : Type 0 where
  pub table : List ℕ
  pub numbers : List ℕ
  pub load : List LoadRecord
  pub longest : List ℕ

-- A network, called by what it shows, and what is stated of it: what stands in the buffers of its certificate, the certificate, and loads
-- that are drained.
pub record Case : Type 0 where
  pub name : List ℕ
  pub source : Source
  pub buffers : Buffers
  pub certificate : Certificate
  pub emptyings : List Emptying

-- The buffers have what the network needs, and no more.
pub record Exact (n : Net) (b : Buffers) : Type 0 where
  pub bytes : length b.table ≡ pairs n
  pub channels : length b.numbers ≡ n.channels
  pub records : length b.load ≡ n.channels
  pub routes : length b.longest ≡ pairs n

-- The network has this certificate, with these buffers before and after.
abbrev pub CertifiedIn : Net → Buffers → Buffers → Certificate → Type 0
CertifiedIn n before after a = Certified n before.table after.table before.numbers after.numbers before.load after.load before.longest after.longest a

-- The load is allowed, and is drained by the calls.
pub record DrainedBy (n : Net) (number : ℕ → ℕ) (e : Emptying) : Type 0 where
  pub allowed : AllowedLoad n e.load
  pub drained : Drained n number e.load (replicate n.channels nothing) (length e.calls)
  pub calls : map (λ (s : Step). s.call) drained.steps ≡ e.calls

-- What is stated of a case is so. Its network keeps the limits. Whatever the buffers held before, it has the certificate that is stated, with what
-- is stated in the buffers, and no other. The loads are drained as stated.
pub record Shown (k : Case) : Type 0 where
  pub conditions : Conditions (net_of k.source)
  pub exact : Exact (net_of k.source) k.buffers
  pub certified : (before : Buffers) → Exact (net_of k.source) before → CertifiedIn (net_of k.source) before k.buffers k.certificate
  pub only : (before after : Buffers) (a : Certificate) → Exact (net_of k.source) after → CertifiedIn (net_of k.source) before after a → (after ≡ k.buffers) × (a ≡ k.certificate)
  pub drained : All (DrainedBy (net_of k.source) (slice_index k.buffers.numbers)) k.emptyings
