use Rattle.std.proofs.Common.{sym, arith}
use Rattle.records.proofs.Texts.{one_digit, more_digits, five_digits}
use Rattle.records.proofs.writing.+digits.Goals as goal

pub returns-then-n-lt10 : goal.returns-then-n-lt10
returns-then-n-lt10 t c = record { value = sym (one_digit c.args.n c.if-n-lt10.true); bound = omega arith }

pub returns-else-n-lt10 : goal.returns-else-n-lt10
returns-else-n-lt10 t c =
    let e = more_digits c.args.n c.if-n-lt10.false (omega arith) in
    let f = five_digits c.args.n (omega arith) in
    record { value = omega arith; bound = omega arith }
