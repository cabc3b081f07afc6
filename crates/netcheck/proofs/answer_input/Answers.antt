use Rattle.std.proofs.Common.{rules, take, string_bytes}
use Rattle.netcheck.proofs.Inputs.{answered}
use Rattle.netcheck.proofs.answer_input.Goals as goal

pub returns : goal.returns
returns g c =
    answered (g.R.Read.remaining c.args.input.now) _ (take c.in_ok-len.len c.read_input.new.buffer) (string_bytes c.in_ok-answer.field-0) c.in_ok-len.ensures.bytes c.in_ok-answer.ensures.answered (search rules)
