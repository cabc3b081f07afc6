use Rattle.std.proofs.Common.{◌≡◌, length}
use Rattle.answers.specs.Results.{Begins}
use Rattle.answers.proofs.results.read_lines.Given as goal

abbrev pub invariant-loop-channel : goal.invariant-loop-channel
invariant-loop-channel l =
    record {
      begins : Begins l.file l.check l.channel l.numbers l.load l.lines.rest;
      numbers : length l.numbers ≡ 128;
      load : length l.load ≡ 128;
    }
