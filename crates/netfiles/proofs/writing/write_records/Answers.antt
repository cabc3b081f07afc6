use Rattle.std.proofs.Common.{arith}
use Rattle.netfiles.proofs.WrittenLines.{record_written, one_more}
use Rattle.netfiles.proofs.writing.write_records.Goals as goal

pub unwrap-end-requires : goal.unwrap-end-requires
unwrap-end-requires c =
    record_written c.args.records.now c.loop-record.record-index c.args.at c.loop-record.end c.args.file.now c.loop-record.file c.write.new.out _ _ c.loop-record-test.true c.requires.small (omega (arith, c.requires.room, c.loop-record.auto.file)) c.loop-record.invariant c.write.ensures.writes

pub loop-record-preserved : goal.loop-record-preserved
loop-record-preserved c =
    let w = rw c.unwrap-end.ensures at c.write.ensures.writes in
    one_more c.args.records.now c.loop-record.record-index c.args.at c.loop-record.end c.unwrap-end.result c.args.file.now c.loop-record.file c.write.new.out _ c.loop-record-test.true c.loop-record.auto.file c.loop-record.invariant w.1
