use Rattle.std.proofs.Common.{◌≡◌, ◌≤◌, length, get_or, rules, arith}
use Rattle.std.proofs.lemmas.Bool.Decides.{nat_tests}
use Rattle.lines.proofs.Numerals.{upto_small, one_more, all_spell}
use Rattle.lines.proofs.read_number.Goals as goal

pub overflow_mul-number : goal.overflow_mul-number
overflow_mul-number c = let s = upto_small c.args.field.now c.loop-byte.byte-index c.loop-byte.number (search rules) (search rules) c.loop-byte.invariant in omega (arith, s)

pub overflow_add-number : goal.overflow_add-number
overflow_add-number c = let s = upto_small c.args.field.now c.loop-byte.byte-index c.loop-byte.number (search rules) (search rules) c.loop-byte.invariant in grind (arith, s)

pub loop-byte-preserved : goal.loop-byte-preserved
loop-byte-preserved c = rw c.from.ensures (one_more c.args.field.now c.loop-byte.byte-index c.loop-byte.number (search rules) (search rules) c.loop-byte.invariant (search rules))

pub returns : goal.returns
returns c =
    let leading : get_or c.args.field.now 0 0 ≡ 48 → length c.args.field.now ≤ 1 = λ z. grind (arith, nat_tests) in
    record { cases = all_spell c.args.field.now c.loop-byte.number (search rules) (search rules) leading (search rules) }
