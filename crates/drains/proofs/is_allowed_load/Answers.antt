use Rattle.std.proofs.Common.{rules, tests, ℕ}
use Rattle.std.proofs.lemmas.Iterator.{YieldsList-from_range}
use Rattle.std.proofs.lemmas.Iterator.Search.{all_from_yields_List}
use Rattle.loads.specs.Loads.{packet}
use Rattle.drains.specs.Emptying.{may_stand}
use Rattle.drains.proofs.Standing.{all_stand}
use Rattle.drains.proofs.is_allowed_load.Goals as goal

pub returns : goal.returns
returns g c =
    let n = g.N.Network.meaning c.args.net.now in
    all_stand n c.args.allowed.now c.args.load.now c.all.result
    (all_from_yields_List (λ (e : ℕ). may_stand n c.args.allowed.now e (packet c.args.load.now e)) _ _ _ c.all.ensures.ran (YieldsList-from_range 0 n.channels n.channels (search rules) (search rules)) (λ x b q k. search (rules, tests)))
