use Rattle.std.proofs.Common.{◌≡◌, ◌++◌, vec_items, map, take}
use Rattle.records.specs.declared.Record.TheVariants.{Entry, Home, Way}
use Rattle.crossings.proofs.records_of.Given as goal

abbrev pub invariant-loop-pair : goal.invariant-loop-pair
invariant-loop-pair l = vec_items l.records ≡ map (λ p. Entry p.channel p.place) (take l.pair-index l.entries)

abbrev pub invariant-loop-pair-2 : goal.invariant-loop-pair-2
invariant-loop-pair-2 l = vec_items l.records ≡ l.initial.records.items ++ map (λ p. Home p.channel p.place) (take l.pair-index l.homes)

abbrev pub invariant-loop-way : goal.invariant-loop-way
invariant-loop-way l = vec_items l.records ≡ l.initial.records.items ++ map (λ w. Way w.channel w.place w.next) (take l.way-index l.ways)
