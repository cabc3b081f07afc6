use Rattle.std.proofs.Common.{◌≡◌, ◌+◌, ◌<◌, length, refl, ap, sym, ◌∙◌, arith}
use Rattle.std.proofs.lemmas.Bool.Decides.{nat_tests}
use Rattle.lines.specs.Pieces.{lines_of}
use Rattle.lines.proofs.Laws.{lined}
use Rattle.lines.proofs.Steps.{no_line, first_line, one_fewer}
use Rattle.lines.proofs.LinesIterator.next.Goals as goal

pub returns-then-is_empty-clause-steps : goal.returns-then-is_empty-clause-steps
returns-then-is_empty-clause-steps c =
    let none : length c.self.inside.rest.now ≡ 0 = grind (arith, nat_tests) in
    let e = ap (λ v. lines_of v.rest) (sym c.self.view_is) ∙ no_line c.self.inside.rest.now none in
    ((e, e), refl, lined c.args.self.now.rest, rw (sym c.self.view_is) c.self.invariant)

pub returns : goal.returns
returns c =
    let some : 0 < length c.self.inside.rest.now = grind (arith, nat_tests) in
    let s = c.split_at_byte in
    let seen = ap (λ v. lines_of v.rest) c.self.view_is in
    let first = first_line (λ x. x.now) c.self.inside.rest.now s.result.0.now s.result.1 _ some refl s.ensures.before s.ensures.parts in
    rw (c.is_some.ensures, c.unwrap_or-self-inside.ensures) (record {
      steps = (sym seen ∙ first.0, (ap (λ v. v.passed + 1) c.self.view_is, refl), lined c.args.self.now.rest, omega (arith, first.1, c.self.invariant));
      goes = one_fewer _ _ _ _ _ (sym seen ∙ first.0);
    })
