-- The worked cases are shown.
use Rattle.std.proofs.Common.{◌≡◌, true, refl}
use Rattle.std.specs.List.{All}
use Rattle.std.proofs.lemmas.List.Elements.{All-weaker}
use Rattle.std.proofs.lemmas.List.Sums.{AllPass-from_list_all}
use Rattle.cases.specs.Cases.{Case, Shown}
use Rattle.cases.specs.Worked.{worked}
use Rattle.cases.proofs.Showing.{fits, shown}

pub all_shown : All Shown worked
all_shown = All-weaker (λ (k : Case). fits k ≡ true) Shown shown worked (AllPass-from_list_all fits worked refl)
