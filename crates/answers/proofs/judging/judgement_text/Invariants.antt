use Rattle.std.proofs.Common.{◌≡◌, ◌++◌, string_bytes}
use Rattle.answers.specs.Judgings.{both_lines}
use Rattle.answers.specs.Judgements.{ruling_line}
use Rattle.answers.proofs.judging.judgement_text.Given as goal

abbrev pub invariant-loop-channel : goal.invariant-loop-channel
invariant-loop-channel l =
    let a = l.judgement.findings in let r = l.judgement.claims in string_bytes l.text ≡ ruling_line l.judgement.ruling ++ both_lines a.numbers a.load r.numbers r.load l.channel
