use Rattle.answers.specs.Judgings.{of_numbers, of_load}
use Rattle.answers.proofs.judging.judge.Goals as goal

pub returns-in_ok-judged-in-Free : goal.returns-in_ok-judged-in-Free
returns-in_ok-judged-in-Free c = of_numbers _ _ _ c.in-Free.is c.in_ok-judged-in-Free.ensures.judges.1

pub returns-in_ok-judged-in-Blocked : goal.returns-in_ok-judged-in-Blocked
returns-in_ok-judged-in-Blocked c = of_load _ _ _ c.in-Blocked.is c.in_ok-judged-in-Blocked.ensures.judges.1
