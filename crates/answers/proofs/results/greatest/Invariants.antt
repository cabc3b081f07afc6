use Rattle.answers.specs.Results.{Greatest}
use Rattle.answers.proofs.results.greatest.Given as goal

abbrev pub invariant-loop-word : goal.invariant-loop-word
invariant-loop-word l = Greatest l.word-index l.numbers l.greatest
