-- A network has one certificate, if the buffers have what it needs and no more.
use Rattle.std.proofs.Common.{◌≡◌, ℕ, List, length, slice_index, sym, ◌∙◌, subst, arith}
use Rattle.std.proofs.lemmas.List.{ext_get_or}
use Rattle.networks.specs.Allowed.{pairs}
use Rattle.networks.specs.Nets.{Net, Conditions}
use Rattle.tracing.specs.Traces.{Traced}
use Rattle.tracing.proofs.Secrecy.{same_byte}
use Rattle.checks.proofs.Secrecy.{one_load}
use Rattle.checks.proofs.Single.{SameCheck, one_check}
use Rattle.routes.specs.Outcomes.{Routed}
use Rattle.routes.specs.declared.outcome.Routes.{Routes}
use Rattle.routes.proofs.Secrecy.{same_routes}
use Rattle.certificates.specs.declared.Certificate.{Certificate}
use Rattle.cases.specs.Cases.{Buffers, Exact, CertifiedIn}

module _ {n : Net} (ok : Conditions n) where
  one_table : {b t c u : List ℕ} {j k : ℕ} → Traced n b t j → Traced n c u k → length t ≡ pairs n → length u ≡ pairs n → t ≡ u
  one_table {t = t} {u = u} x y long long' = ext_get_or 0 t u (long ∙ sym long') (λ i l. same_byte ok x y i (omega (arith, long)))

  one_longest : {b c t l m l' m' : List ℕ} {a r : Routes} → Routed n b t l l' a → Routed n c t m m' r → length l' ≡ pairs n → length m' ≡ pairs n → l' ≡ m'
  one_longest {l' = l'} {m' = m'} x y long long' = ext_get_or 0 l' m' (long ∙ sym long') (λ i l. sym (x.numbered.1.only (slice_index m') y.numbered.1.all i (omega (arith, long))))

  pub one_certificate : (before after before' after' : Buffers) (a a' : Certificate) → Exact n after → Exact n after' → CertifiedIn n before after a → CertifiedIn n before' after' a' → (after ≡ after') × (a ≡ a')
  one_certificate before after before' after' a a' e e' x y = (
    λ i. record { table = table i; numbers = numbers i; load = load i; longest = longest i },
    λ i. record { check = check.answers i; routes = routes i },
  )
    where
      table : after.table ≡ after'.table
      table = one_table x.checked.traced.1 y.checked.traced.1 e.bytes e'.bytes

      check : SameCheck n after.numbers after'.numbers after.load after'.load a.check a'.check
      check = one_check n ok before.table after.table before.numbers after.numbers before'.table after'.table before'.numbers after'.numbers before.load after.load before'.load after'.load a.check a'.check (omega (arith, e.channels)) (omega (arith, e'.channels)) x.checked y.checked

      numbers : after.numbers ≡ after'.numbers
      numbers = ext_get_or 0 after.numbers after'.numbers (e.channels ∙ sym e'.channels) (λ c l. check.numbers c (omega (arith, e.channels)))

      load : after.load ≡ after'.load
      load = one_load after.load after'.load (e.records ∙ sym e'.records) (λ c l. check.packets c (omega (arith, e.records)))

      same_table : Routed n before'.table after.table before'.longest after'.longest a'.routes
      same_table = subst (λ (t : List ℕ). Routed n before'.table t before'.longest after'.longest a'.routes) (sym table) y.routed

      longest : after.longest ≡ after'.longest
      longest = one_longest x.routed same_table e.routes e'.routes

      same_longest : Routed n before'.table after.table before'.longest after.longest a'.routes
      same_longest = subst (λ (l : List ℕ). Routed n before'.table after.table before'.longest l a'.routes) (sym longest) same_table

      routes : a.routes ≡ a'.routes
      routes = same_routes x.routed same_longest (omega (arith, e.routes))
