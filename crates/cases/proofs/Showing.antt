-- What is stated of a case is so, if a test of it succeeds.
use Rattle.std.proofs.Common.{◌≡◌, ℕ, Bool, true, false, ◌&&◌, eqb, List, length, map, replicate, slice_index, refl, sym, ap, ◌∙◌, subst, arith}
use Rattle.std.specs.List.{list_all, range_with_len}
use Rattle.std.proofs.lemmas.Bool.{and_parts, eqb-true}
use Rattle.std.proofs.lemmas.List.{length-map}
use Rattle.std.proofs.lemmas.Option.{slice_get_past}
use Rattle.std.proofs.lemmas.List.Elements.{All-weaker}
use Rattle.std.proofs.lemmas.List.Sums.{AllPass-from_list_all}
use Rattle.networks.specs.Allowed.{said}
use Rattle.networks.specs.Nets.{Net, Conditions}
use Rattle.numbering.specs.Outcomes.{Outcome}
use Rattle.numbering.specs.Systems.{System}
use Rattle.numbering.specs.declared.Numbering.{Numbering}
use Rattle.escapes.specs.Escaping.{escape, escape_conditions}
use Rattle.routes.specs.Limits.{route_conditions}
use Rattle.routes.specs.Outcomes.{Routed}
use Rattle.routes.specs.Routing.{route}
use Rattle.routes.proofs.Outcomes.{routed}
use Rattle.loads.specs.Loads.{packet, nothing}
use Rattle.loads.specs.Runs.{Step}
use Rattle.loads.specs.declared.LoadRecord.{LoadRecord}
use Rattle.checks.specs.Checks.{Checked, Judged}
use Rattle.checks.specs.declared.outcome.Check.{Check}
use Rattle.checks.specs.declared.outcome.Verdict.{Verdict}
use Rattle.checks.specs.declared.outcome.Verdict.TheVariants.{Free, Blocked}
use Rattle.checks.proofs.Verdicts.{checked}
use Rattle.certificates.proofs.Certifying.{certified_in_turn}
use Rattle.drains.specs.Orders.{InOrder}
use Rattle.drains.specs.Emptying.{may_stand, Lowering}
use Rattle.drains.proofs.Draining.{drained, lowering}
use Rattle.drains.proofs.Standing.{all_stand, load_allowed}
use Rattle.cases.specs.Cases.{Emptying, Case, Buffers, Exact, CertifiedIn, DrainedBy, Shown, net_of}
use Rattle.cases.proofs.Sources.{source_fits, conditions}
use Rattle.cases.proofs.Reaching.{table_fits, traced, exact}
use Rattle.cases.proofs.Numbering.{numbers_fit, numbered, numbers_long, greatest_of}
use Rattle.cases.proofs.Verdicts.{verdict_fits, verdict_is, arriving_fits, arriving_is, load_fits, ours}
use Rattle.cases.proofs.Single.{one_certificate}
use Rattle.cases.proofs.Emptying.{emptied_by, ran, bare_is, bare_emptied}

abbrev is_free : Verdict → Bool
is_free Free = true
is_free Blocked = false

free_is : (v : Verdict) → is_free v ≡ true → v ≡ Free
free_is Free e = refl
free_is Blocked e = absurd (cc)

module _ (k : Case) where
  abbrev n : Net
  n = net_of k.source

  abbrev table : List ℕ
  table = k.buffers.table

  abbrev number : ℕ → ℕ
  number = slice_index k.buffers.numbers

  -- the release systems of channels and of pairs
  abbrev of_channels : System
  of_channels = escape n (said table)

  abbrev of_pairs : System
  of_pairs = route n (said table)

  abbrev check : Check
  check = k.certificate.check

  -- the numbering of the pairs
  abbrev pair_numbering : Numbering
  pair_numbering = record { greatest = greatest_of k.buffers.longest; held = k.certificate.routes.held }

  abbrev our_load_fits : Bool
  our_load_fits = eqb (length k.buffers.load) n.channels && load_fits of_channels number k.buffers.load

  abbrev check_fits : Bool
  check_fits = numbers_fit of_channels k.buffers.numbers check.numbering && (verdict_fits check.verdict check.numbering.held && our_load_fits)

  abbrev routes_fit : Bool
  routes_fit = numbers_fit of_pairs k.buffers.longest pair_numbering && arriving_fits k.certificate.routes

  -- the packets of the load are allowed
  abbrev stand : List LoadRecord → Bool
  stand load = list_all (λ c. may_stand n table c (packet load c)) (range_with_len 0 n.channels)

  abbrev emptying_fits : Emptying → Bool
  emptying_fits e = is_free check.verdict && (eqb (length e.load) n.channels && (stand e.load && emptied_by n number e.load e.calls))

  abbrev pub fits : Bool
  fits = source_fits k.source && (table_fits n table && (check_fits && (routes_fit && list_all emptying_fits k.emptyings)))

  -- what a test that succeeds comes to, of a network that keeps the limits and a table that tells its allowed pairs
  module _ (ok : Conditions n) (tells : table_fits n table ≡ true) where
    record CheckParts : Type 0 where
      numbers : numbers_fit of_channels k.buffers.numbers check.numbering ≡ true
      verdict : verdict_fits check.verdict check.numbering.held ≡ true
      records : length k.buffers.load ≡ n.channels
      load : load_fits of_channels number k.buffers.load ≡ true

    check_parts : check_fits ≡ true → CheckParts
    check_parts e =
        let x = and_parts (numbers_fit of_channels k.buffers.numbers check.numbering) _ e in
        let y = and_parts (verdict_fits check.verdict check.numbering.held) our_load_fits x.1 in
        let z = and_parts (eqb (length k.buffers.load) n.channels) (load_fits of_channels number k.buffers.load) y.1 in
        record { numbers = x.0; verdict = y.0; records = eqb-true _ _ z.0; load = z.1 }

    lengths : CheckParts → routes_fit ≡ true → Exact n k.buffers
    lengths p e = record {
      bytes = exact n ok table tells;
      channels = numbers_long of_channels k.buffers.numbers check.numbering p.numbers;
      records = p.records;
      routes = numbers_long of_pairs k.buffers.longest pair_numbering (and_parts _ (arriving_fits k.certificate.routes) e).0;
    }

    numbers_outcome : CheckParts → (before : List ℕ) → length before ≡ n.channels → Outcome of_channels before k.buffers.numbers check.numbering
    numbers_outcome p = numbered of_channels (escape_conditions n (said table) ok) k.buffers.numbers check.numbering p.numbers

    check_is : CheckParts → (before : Buffers) → Exact n before → Checked n before.table table before.numbers k.buffers.numbers before.load k.buffers.load check
    check_is p before lent =
        checked ok (traced n ok table tells before.table lent.bytes) (numbers_outcome p before.numbers lent.channels) (ours of_channels number k.buffers.load p.load)
        (λ c l. slice_get_past k.buffers.load c (omega (arith, p.records)) ∙ sym (slice_get_past before.load c (omega (arith, lent.records))))
        check.verdict (verdict_is check.verdict check.numbering.held p.verdict)

    routes_are : routes_fit ≡ true → (before : Buffers) → Exact n before → Routed n table table before.longest k.buffers.longest k.certificate.routes
    routes_are e before lent =
        let x = and_parts (numbers_fit of_pairs k.buffers.longest pair_numbering) (arriving_fits k.certificate.routes) e in
        routed ok (traced n ok table tells table (exact n ok table tells)) (numbered of_pairs (route_conditions n (said table) ok) k.buffers.longest pair_numbering x.0 before.longest lent.routes)
        k.certificate.routes refl (arriving_is k.certificate.routes x.1)

    certified : CheckParts → routes_fit ≡ true → (before : Buffers) → Exact n before → CertifiedIn n before k.buffers k.certificate
    certified p e before lent = certified_in_turn ok (check_is p before lent) (routes_are e before lent) (omega (arith, p.records))

    -- the numbers of a free network are sound
    lowers : CheckParts → Exact n k.buffers → is_free check.verdict ≡ true → Lowering n k.buffers.numbers
    lowers p long free =
        let judged : Judged Free of_channels number = rw (free_is check.verdict free) at (check_is p k.buffers long).verdict in
        lowering ok (traced n ok table tells table long.bytes) (numbers_outcome p k.buffers.numbers long.channels) judged (omega (arith, long.channels))

    drained_by : CheckParts → Exact n k.buffers → (e : Emptying) → emptying_fits e ≡ true → DrainedBy n number e
    drained_by p long e f =
        let x = and_parts (is_free check.verdict) _ f in
        let y = and_parts (eqb (length e.load) n.channels) _ x.1 in
        let z = and_parts (stand e.load) (emptied_by n number e.load e.calls) y.1 in
        let records = eqb-true _ _ y.0 in
        let r = ran n number e.load e.calls (omega (arith, records)) z.1 in
        let bare = bare_emptied n n.channels in
        let end : r.end ≡ replicate n.channels nothing = bare_is r.end r.bare ∙ ap (λ (m : ℕ). replicate m nothing) (r.long ∙ records) in
        let order : InOrder n number e.load r.steps (replicate n.channels nothing) = subst (λ (m : List LoadRecord). InOrder n number e.load r.steps m) end r.order in
        let count : length e.calls ≡ length r.steps = ap length (sym r.made) ∙ length-map r.steps (λ (s : Step). s.call) in
        let allowed = load_allowed ok (traced n ok table tells table long.bytes) e.load (stand e.load) (all_stand n table e.load (stand e.load) refl) z.0 in
        let d = drained ok (lowers p long x.0) allowed (record { steps = r.steps; order = order; count = count }) bare in
        record { allowed = allowed; drained = d; calls = ap (map (λ (s : Step). s.call)) (sym (d.only r.steps (replicate n.channels nothing) order bare).0) ∙ r.made }

pub shown : (k : Case) → fits k ≡ true → Shown k
shown k e =
    let x = and_parts (source_fits k.source) _ e in
    let y = and_parts (table_fits (n k) (table k)) _ x.1 in
    let z = and_parts (check_fits k) _ y.1 in
    let w = and_parts (routes_fit k) (list_all (emptying_fits k) k.emptyings) z.1 in
    let ok = conditions k.source x.0 in
    let p = check_parts k ok y.0 z.0 in
    let long = lengths k ok y.0 p w.0 in
    let all = certified k ok y.0 p w.0 in
    record {
      conditions = ok;
      exact = long;
      certified = all;
      only = λ before after a fits x. one_certificate ok before after k.buffers k.buffers a k.certificate fits long x (all k.buffers long);
      drained = All-weaker (λ (e : Emptying). emptying_fits k e ≡ true) (DrainedBy (n k) (number k)) (drained_by k ok y.0 p long) k.emptyings (AllPass-from_list_all (emptying_fits k) k.emptyings w.1);
    }
