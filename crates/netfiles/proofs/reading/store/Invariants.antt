use Rattle.netfiles.proofs.Stores.{Storing}
use Rattle.netfiles.proofs.reading.store.Given as goal

abbrev pub invariant-loop-at : goal.invariant-loop-at
invariant-loop-at l =
    let i = l.at-iterator in
    Storing l.file i.iter.iter.passed i.iter.iter.left i.count l.initial.list l.list
