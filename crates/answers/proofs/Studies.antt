-- What is found of the network file in an input, or why it is not taken.
use Rattle.std.proofs.Common.{◌≡◌, ℕ, ◌≤◌, ◌⊎◌, List, length, Ok, Err, refl, ap, subst, inl, inr, arith}
use Rattle.networks.specs.declared.faults.Buffer.TheVariants.{File}
use Rattle.networks.specs.declared.faults.StudyFault.{StudyFault}
use Rattle.networks.specs.declared.faults.StudyFault.TheVariants.{Table, Short}
use Rattle.networks.specs.declared.faults.TableFault.{TableFault}
use Rattle.records.specs.declared.Size.{Size}
use Rattle.tables.specs.Meaning.{meaning_of}
use Rattle.netfiles.specs.Reading.{Wanting, TableRead}
use Rattle.netfiles.specs.declared.reading.NetworkFile.{NetworkFile}
use Rattle.answers.specs.Prints.{Fits, Takes, Rejects, refused, large, Starves}

module _ (input : List ℕ) (short : length input ≤ 32768) where
  pub unread : (t : TableFault) → TableRead input 2048 (Err t) → Rejects input (Table t) ⊎ Starves input (Table t)
  unread t (inl x) = inl (refused short t x refl)
  unread t (inr x) = inr (record { short = short; wanting = subst (Wanting input) x.fault x; fault = ap Table x.fault })

  module _ (a : NetworkFile) (r : TableRead input 2048 (Ok a)) where
    pub too_large : (f : StudyFault) → (Fits a.summary.size → ⊥) → f ≡ Short File → Rejects input f
    too_large f h e = large short a.summary.size r.0 r.1 h e

    pub takes : Fits a.summary.size → Takes input (meaning_of a.table)
    takes fits = record { short = short; size = a.summary.size; list = r.0; accepted = r.1; fits = fits; network = r.3 }

-- a size fits if it is one that does
pub fitting : (t s : Size) → t.channels ≡ s.channels → t.places ≡ s.places → Fits s → Fits t
fitting t s c d fits = record { channels = omega (arith, c, fits.channels); places = omega (arith, d, fits.places) }
