-- From the parts of the entry to what it gives.
use Rattle.std.proofs.Common.{◌≡◌, ℕ, List, [], Ok, Err, Result, refl, ap, subst, inl, inr, ◌∙◌}
use Rattle.networks.specs.Faults.{study_parts}
use Rattle.networks.specs.Nets.{Net}
use Rattle.networks.specs.declared.faults.StudyFault.{StudyFault}
use Rattle.networks.specs.declared.faults.StudyFault.TheVariants.{Table}
use Rattle.networks.specs.declared.faults.TableFault.{TableFault}
use Rattle.tables.specs.Makes.{most}
use Rattle.tables.specs.Meaning.{meaning_of}
use Rattle.netfiles.specs.Reading.{Wanting, TableRead}
use Rattle.netfiles.specs.declared.reading.NetworkFile.{NetworkFile}
use Rattle.checks.specs.declared.outcome.Verdict.{Verdict}
use Rattle.editor.specs.Entry.{number_told, Buffers, with_place, Found, Reason, refused, short, judges, refuses, Entered}
use Rattle.editor.specs.Steps.{OfNet, OfFile}
use Rattle.editor.proofs.Alike.{enters, starved}

-- a file that is refused, and one that is accepted
pub unread : (file : List ℕ) (b : Buffers) (work : ℕ) (t : TableFault) → TableRead file most (Err t) → OfFile file b work (Err (Table t)) b
unread file b work t (inl x) = (inl (refused t x refl), refl)
unread file b work t (inr x) = (inr (subst (Wanting file) x.fault x, ap Table x.fault), refl)

pub studied : (file : List ℕ) (b after : Buffers) (work : ℕ) (a : NetworkFile) (r : Result Verdict StudyFault) → TableRead file most (Ok a) → OfNet (meaning_of a.table) b work r after → OfFile file b work r after
studied file b after work a (Ok v) (rs, accepted, count, e) x = (meaning_of a.table, record { size = a.summary.size; list = rs; accepted = accepted; network = e }, x.0, x.1)
studied file b after work a (Err f) (rs, accepted, count, e) (k, s, is, same) =
    (inl (short (meaning_of a.table) (record { size = a.summary.size; list = rs; accepted = accepted; network = e }) k s is), same)

-- What the parts give without the words for a fault, the entry gives with them.
module _ (file a n p a' n' p' f : List ℕ) (work : ℕ) where
  abbrev lent : List ℕ → Buffers
  lent x = record { allowed = a; numbers = n; places = p; fault = x }

  abbrev left : List ℕ → Buffers
  left x = record { allowed = a'; numbers = n'; places = p'; fault = x }

  found_with : (net : Net) (v : Verdict) → Found net (lent []) v (left []) → Found net (lent f) v (left f)
  found_with net v x = record { load = x.load; load' = x.load'; check = x.check; checked = x.checked; verdict = x.verdict; long = x.long; places = x.places }

  pub judged : (v : Verdict) (r : ℕ) → OfFile file (lent []) work (Ok v) (left []) → r ≡ number_told (Ok v) → Entered file (lent f) work r (left f)
  judged v r (net, takes, rooms, found) e = inl (enters file (lent f) work r (left f) (judges v (record { net = net; takes = takes; rooms_suffice = rooms; found = found_with net v found; fault = refl }) e))

  reason_with : (g : StudyFault) → Reason file (lent []) work g → Reason file (lent f) work g
  reason_with g (refused t x e) = refused t x e
  reason_with g (short net takes b s e) = short net takes b s e

  pub told : (g : StudyFault) (r : ℕ) → OfFile file (lent []) work (Err g) (left []) → r ≡ (study_parts g).number → Entered file (lent f) work r (left (with_place (study_parts g) f))
  told g r (inl why, same) e =
      inl (enters file (lent f) work r (left (with_place (study_parts g) f)) (refuses g (reason_with g why) (record {
        allowed = ap (λ (x : Buffers). x.allowed) same;
        numbers = ap (λ (x : Buffers). x.numbers) same;
        places = ap (λ (x : Buffers). x.places) same;
        fault = refl;
      }) e))
  told g r (inr (w, is), same) e =
      inr (starved file (lent f) work r (left (with_place (study_parts g) f)) (record {
        wanting = w;
        told = record {
          allowed = ap (λ (x : Buffers). x.allowed) same;
          numbers = ap (λ (x : Buffers). x.numbers) same;
          places = ap (λ (x : Buffers). x.places) same;
          fault = ap (λ (h : StudyFault). with_place (study_parts h) f) is;
        };
        number = e ∙ ap (λ (h : StudyFault). number_told (Err h)) is;
      }))
