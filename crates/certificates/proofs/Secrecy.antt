-- A certificate does not show what the work area held.
use Rattle.std.proofs.Common.{◌≡◌, ℕ, ◌<◌, ◌≤◌, List, length, None, Ok, Err, Result, sym, ap, ◌∙◌, refl, arith, Option}
use native.Mathlib.Decide.{dec_lt}
use Rattle.networks.specs.Allowed.{pairs}
use Rattle.networks.specs.Nets.{Net, Conditions}
use Rattle.networks.specs.Rooms.{first_short}
use Rattle.networks.specs.Secrecy.{Secret}
use Rattle.networks.specs.declared.faults.Buffer.{Buffer}
use Rattle.networks.specs.declared.faults.StudyFault.{StudyFault}
use Rattle.networks.proofs.Secrecy.{cleared_same, same_refusal, not_refused}
use Rattle.loads.specs.declared.LoadRecord.{LoadRecord}
use Rattle.checks.proofs.Secrecy.{checked_one}
use Rattle.routes.proofs.Secrecy.{routed_one}
use Rattle.certificates.specs.Certificates.{rooms, Certifies, Left, Leaves}
use Rattle.certificates.specs.declared.Certificate.{Certificate}

-- a number for each channel and one for each pair, where no buffer is too short
numbers_enough : (n : Net) (allowed numbers load longest w : ℕ) → first_short (rooms n allowed numbers load longest w) ≡ None → n.channels ≤ numbers
numbers_enough n allowed numbers load longest w e = go (dec_lt numbers n.channels)
  where
    go : Dec (numbers < n.channels) → n.channels ≤ numbers
    go (no h) = omega (arith, h)
    go (yes h) = absurd (grind (arith, e, h))

longest_enough : (n : Net) (allowed numbers load longest w : ℕ) → first_short (rooms n allowed numbers load longest w) ≡ None → pairs n ≤ longest
longest_enough n allowed numbers load longest w e = go (dec_lt longest (pairs n))
  where
    go : Dec (longest < pairs n) → pairs n ≤ longest
    go (no h) = omega (arith, h)
    go (yes h) = absurd (grind (arith, e, h))

module _ {n : Net} (ok : Conditions n) (allowed numbers : List ℕ) (load : List LoadRecord) (longest : List ℕ) where
  abbrev short_of : ℕ → Option Buffer
  short_of w = first_short (rooms n (length allowed) (length numbers) (length load) (length longest) w)

  -- one answer, and what then stands in the buffers
  record Same (r q : Result Certificate StudyFault) (x y : Left) : Type 0 where
    answers : r ≡ q
    tables : x.allowed ≡ y.allowed
    of_channels : x.numbers ≡ y.numbers
    loads : x.load ≡ y.load
    of_pairs : x.longest ≡ y.longest

  one : (held other : List ℕ) → length held ≡ length other → (r q : Result Certificate StudyFault) (x y : Left) → x.answer ≡ r → y.answer ≡ q → Leaves n allowed numbers load longest held x → Leaves n allowed numbers load longest other y → Certifies n allowed numbers load longest (length held) r x.allowed x.numbers x.load x.longest → Certifies n allowed numbers load longest (length other) q y.allowed y.numbers y.load y.longest → Same r q x y
  one held other e (Ok a) (Ok k) x y f g p q (s, c) (t, d) =
      let check = checked_one ok allowed numbers load x.allowed y.allowed x.numbers y.numbers x.load y.load a.check k.check c.checked d.checked (numbers_enough n _ (length numbers) _ _ _ s) p.bytes q.bytes p.each q.each p.records q.records in
      let routes = routed_one ok c.routed d.routed (longest_enough n _ _ _ (length longest) _ s) p.bytes q.bytes p.pairs q.pairs in
      record {
        answers = λ i. Ok (record { check = check.0 i; routes = routes.0 i });
        tables = check.1;
        of_channels = check.2;
        loads = check.3;
        of_pairs = routes.2;
      }
  one held other e (Ok a) (Err g) x y f h p q (s, c) (b, t, _, _, _, _, _) = absurd (not_refused _ _ (ap short_of e) b s t)
  one held other e (Err f) (Ok k) x y g h p q (b, s, _, _, _, _, _) (t, d) = absurd (not_refused _ _ (ap short_of (sym e)) b t s)
  one held other e (Err f) (Err g) x y h k p q (b, s, d, a, n, l, m) (c, t, j, a', n', l', m') = record {
    answers = ap Err (same_refusal _ _ (ap short_of e) b c f g s d t j);
    tables = a ∙ sym a';
    of_channels = n ∙ sym n';
    loads = l ∙ sym l';
    of_pairs = m ∙ sym m';
  }

  pub certify_secret : Secret (Leaves n allowed numbers load longest)
  certify_secret held other x y e p q =
      let same = one held other e x.answer y.answer x y refl refl p q p.certifies q.certifies in
      let work = cleared_same x.work y.work (p.words ∙ e ∙ sym q.words) p.cleared q.cleared in
      λ i. record { answer = same.answers i; allowed = same.tables i; numbers = same.of_channels i; load = same.loads i; longest = same.of_pairs i; work = work i }
