use Rattle.std.proofs.Common.{rules}
use Rattle.answers.proofs.Agreeing.{disagrees}
use Rattle.answers.proofs.results.read_result.Goals as goal

pub returns-then-ne : goal.returns-then-ne
returns-then-ne c =
    rw c.from.ensures at (disagrees c.from.result c.in_ok-claims.claims.numbers c.agreeing.result (search rules) c.args.file.now c.in_ok-claims.claims.check c.in_ok-claims.claims.load (rw c.from.ensures c.in_ok-claims.ensures) c.agreeing.ensures (search rules))
