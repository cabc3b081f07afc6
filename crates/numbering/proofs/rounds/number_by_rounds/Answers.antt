use Rattle.std.proofs.Common.{slice_index, rules}
use Rattle.networks.specs.Allowed.{said}
use Rattle.numbering.proofs.Deciding.{decided}
use Rattle.numbering.proofs.Outcome.{listing_start}
use Rattle.numbering.proofs.rounds.number_by_rounds.Goals as goal

pub run_rounds-rounds-requires-clause-listing : goal.run_rounds-rounds-requires-clause-listing
run_rounds-rounds-requires-clause-listing g c =
    let s = g.S.ReleaseSystem.meaning c.args.system.now (said c.args.allowed.now) in
    let all = c.open_all.ensures in
    listing_start s (slice_index c.open_all.new.numbers) c.open_all.new.list (λ i h. (all i (rw c.requires.items h)).0) (λ i h. (all i (rw c.requires.items h)).1)

pub returns : goal.returns
returns g c =
    let s = g.S.ReleaseSystem.meaning c.args.system.now (said c.args.allowed.now) in
    let ok = g.S.ReleaseSystem.conditions c.args.system.now (said c.args.allowed.now) in
    decided s ok (slice_index c.run_rounds-rounds.new.numbers) (slice_index c.close.new.numbers) c.run_rounds-rounds.result c.run_rounds-rounds.ensures (λ i h. c.close.ensures i (search (rules, h)))
