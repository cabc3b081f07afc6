use Rattle.std.proofs.Common.{◌+◌, refl, ap, ◌∙◌, arith}
use Rattle.std.specs.ControlFlow.{continue_value}
use Rattle.lines.proofs.Steps.{next_field, one_fewer}
use Rattle.lines.proofs.FieldsIterator.next.Goals as goal

pub returns : goal.returns
returns c =
    let first = next_field (λ x. x.now) _ _ _ _ _ (ap (λ v. v.rest) c.self.view_is) (c.branch-self.ensures ∙ ap continue_value c.in_ok-self.is) c.split_at_byte.ensures.before c.split_at_byte.ensures.parts in
    record {
      steps = (first.0, (ap (λ v. v.passed + 1) c.self.view_is, refl), first.1, omega (arith, first.2, c.self.invariant));
      goes = one_fewer _ _ _ _ _ first.0;
    }
