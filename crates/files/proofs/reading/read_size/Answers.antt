use Rattle.std.proofs.Common.{arith}
use Rattle.std.proofs.lemmas.List.{drop_more, nil_from_length}
use Rattle.files.proofs.Written.{says_size}
use Rattle.files.proofs.reading.read_size.Goals as goal

pub returns-in_ok-channels-in-n : goal.returns-in_ok-channels-in-n
returns-in_ok-channels-in-n c = says_size _ _ _ _ c.in-Some.ensures c.in_ok-channels-in-n.ensures _ c.in-n.is (grind (arith, drop_more, nil_from_length))
