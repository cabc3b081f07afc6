use Rattle.std.proofs.Common.{◌≡◌, ◌++◌, string_bytes}
use Rattle.answers.specs.Prints.{verdict_line, channel_lines}
use Rattle.answers.proofs.verdict_text.Given as goal

abbrev pub invariant-loop-channel : goal.invariant-loop-channel
invariant-loop-channel l =
    string_bytes l.text ≡ verdict_line l.findings.certificate.check ++ channel_lines l.findings.numbers l.findings.load l.channel
