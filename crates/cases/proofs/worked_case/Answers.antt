use Rattle.cases.proofs.Working.{all_shown}
use Rattle.cases.proofs.worked_case.Goals as goal

pub returns-clause-shown : goal.returns-clause-shown
returns-clause-shown c = all_shown
