use Rattle.std.proofs.Common.{rules, take, string_bytes}
use Rattle.netcheck.proofs.Inputs.{judged}
use Rattle.netcheck.proofs.judge_input.Goals as goal

pub returns : goal.returns
returns g c =
    judged (g.R.Read.remaining c.args.input.now) _ (take c.in_ok-len.len c.read_input.new.buffer) c.args.file.now (string_bytes c.in_ok-judge_result.field-0) c.in_ok-len.ensures.bytes c.in_ok-judge_result.ensures.refereed (search rules)
