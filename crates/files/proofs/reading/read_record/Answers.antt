use Rattle.std.proofs.Common.{arith}
use Rattle.std.proofs.lemmas.List.{drop_more, nil_from_length}
use Rattle.files.proofs.Written.{says_record}
use Rattle.files.proofs.reading.read_record.Goals as goal

pub returns-in_ok-channel-in-e : goal.returns-in_ok-channel-in-e
returns-in_ok-channel-in-e c = says_record _ _ _ _ c.in-Some.ensures c.in_ok-channel-in-e.ensures _ c.in-e.is (grind (arith, drop_more, nil_from_length))

pub returns-in_ok-channel-in-h : goal.returns-in_ok-channel-in-h
returns-in_ok-channel-in-h c = says_record _ _ _ _ c.in-Some.ensures c.in_ok-channel-in-h.ensures _ c.in-h.is (grind (arith, drop_more, nil_from_length))

pub returns-in_ok-channel-in-w : goal.returns-in_ok-channel-in-w
returns-in_ok-channel-in-w c = says_record _ _ _ _ c.in-Some.ensures c.in_ok-channel-in-w.ensures _ c.in-w.is (grind (arith, drop_more, nil_from_length))
