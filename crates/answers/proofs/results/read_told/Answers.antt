use Rattle.std.proofs.Common.{rules}
use Rattle.answers.proofs.Rows.{told_number, no_number, told_place, no_place}
use Rattle.answers.proofs.results.read_told.Goals as goal

pub returns-in_err-read_number : goal.returns-in_err-read_number
returns-in_err-read_number c = rw c.from_residual.ensures (no_number c.args.number.now c.args.place.now c.in_err-read_number.ensures.cases (search rules))

pub returns-then-eq : goal.returns-then-eq
returns-then-eq c = rw c.from-number.ensures (told_number c.args.number.now c.args.place.now _ c.in_ok-read_number.ensures.cases.1 (search rules))

pub returns-in_err-place : goal.returns-in_err-place
returns-in_err-place c = rw c.from_residual-in_err-place.ensures (no_place c.args.number.now c.args.place.now c.in_err-place.ensures.cases (search rules))

pub returns-then-eq-2 : goal.returns-then-eq-2
returns-then-eq-2 c = rw c.holding.ensures (told_place c.args.number.now c.args.place.now _ c.in_ok-place.ensures.cases.1 (search rules))
