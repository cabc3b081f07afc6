use Rattle.std.proofs.Common.{◌≡◌, ℕ, rules, tests, Some, None}
use Rattle.std.proofs.lemmas.Iterator.{cases_from_any, YieldsList-from_range}
use Rattle.loads.specs.Loads.{packet}
use Rattle.judges.proofs.PacketSearch.{some_packet}
use Rattle.judges.proofs.packets.has_packet.Goals as goal

pub returns : goal.returns
returns g c =
    let l = c.args.load.now in
    some_packet (g.N.Network.meaning c.args.net.now) l c.channels.result (search rules) c.any.result
    (cases_from_any _ _ c.any.result (λ k. (d : ℕ) × (packet l k ≡ Some d)) (λ k. packet l k ≡ None) c.any.ensures.ran (YieldsList-from_range 0 c.channels.result c.channels.result (search rules) (search rules)) (λ x q k. search (rules, tests)) (λ x q k. search (rules, tests)))
