use Rattle.std.proofs.Common.{◌≡◌, ℕ, List, true, false, rules, tests, None}
use Rattle.std.proofs.lemmas.Iterator.{cases_from_any}
use Rattle.std.proofs.lemmas.Iterator.Consumers.{YieldsList-from_first}
use Rattle.networks.specs.Allowed.{listed, said}
use Rattle.loads.specs.Loads.{packet}
use Rattle.judges.specs.Judgements.{Loose, home}
use Rattle.judges.proofs.PacketSearch.{by_ways, not_told, told}
use Rattle.judges.proofs.packets.is_loose.Goals as goal
use Rattle.judges.proofs.packets.is_loose.Goals.{then-not-is_allowed, else-not-is_allowed}

pub returns-then-home : goal.returns-then-home
returns-then-home g c =
    let n = g.N.Network.meaning c.args.net.now in
    let ok = g.N.Network.conditions c.args.net.now in
    let l = c.args.load.now in
    let loose : Loose n l c.args.pair.channel c.args.pair.place = elim c.if-not-is_allowed.branch [
      | then-not-is_allowed w ↦ not_told ok c.requires.table.2 l c.args.pair.channel c.args.pair.place c.requires.stands (search rules)
      | else-not-is_allowed w ↦ home c.requires.stands (search rules)
    ] in
    (λ _. loose, λ _. c.if-home.true)

pub returns-else-home : goal.returns-else-home
returns-else-home g c =
    let n = g.N.Network.meaning c.args.net.now in
    let ok = g.N.Network.conditions c.args.net.now in
    let l = c.args.load.now in
    let told_so : listed n (said c.args.allowed.now) c.args.pair.channel c.args.pair.place ≡ true = elim c.if-not-is_allowed.branch [
      | then-not-is_allowed w ↦ absurd (cc)
      | else-not-is_allowed w ↦ search rules
    ] in
    let away : n.home c.args.pair.channel c.args.pair.place ≡ false = elim c.if-not-is_allowed.branch [
      | then-not-is_allowed w ↦ absurd (cc)
      | else-not-is_allowed w ↦ search rules
    ] in
    by_ways l c.args.pair.channel c.args.pair.place c.requires.stands (told ok c.requires.table.2 l c.args.pair.channel c.args.pair.place c.requires.stands told_so) away c.any.result
    (cases_from_any _ _ c.any.result (λ h. packet l h ≡ None) (λ h. packet l h ≡ None → ⊥) c.any.ensures.ran (YieldsList-from_first (λ (x : ℕ). x) (λ (ways : List ℕ). ways) (n.ways c.args.pair.channel c.args.pair.place) (search rules)) (λ x q k. search (rules, tests)) (λ x q k. search (rules, tests)))
