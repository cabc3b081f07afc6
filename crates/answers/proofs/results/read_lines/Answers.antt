use Rattle.std.proofs.Common.{◌∙◌, refl, sym, arith}
use Rattle.std.proofs.lemmas.List.{length-set}
use Rattle.answers.proofs.Begun.{unopened, begun, untold, told, too_long}
use Rattle.answers.proofs.results.read_lines.Goals as goal

pub returns-in_default : goal.returns-in_default
returns-in_default c = unopened c.args.channels c.args.file.now (rw c.new-lines.ensures.rest at c.in_default.ensures)

pub loop-channel-init : goal.loop-channel-init
loop-channel-init c =
    record {
      begins = begun c.args.channels c.args.file.now c.in-Some.check _ _ _ (rw c.new-lines.ensures.rest at c.in-Some.ensures);
      numbers = refl;
      load = refl;
    }

pub returns-in_default-read_claim : goal.returns-in_default-read_claim
returns-in_default-read_claim c =
    rw c.from-at.ensures (untold c.args.channels c.args.file.now c.in-Some.check c.loop-channel.channel _ _ _ c.loop-channel.invariant.begins c.loop-channel-test.true c.in_default-read_claim.ensures)

pub loop-channel-preserved : goal.loop-channel-preserved
loop-channel-preserved c =
    record {
      begins = told c.args.channels c.args.file.now c.in-Some.check c.loop-channel.channel _ _ _ c.loop-channel.invariant.begins c.from-at.result c.in-Some-read_claim.told.number c.in-Some-read_claim.told.packet _ c.from-at.ensures (omega arith) (omega arith) c.in-Some-read_claim.ensures;
      numbers = length-set c.loop-channel.numbers c.from-at.result c.in-Some-read_claim.told.number ∙ c.loop-channel.invariant.numbers;
      load = length-set c.loop-channel.load c.from-at.result c.in-Some-read_claim.told.packet ∙ c.loop-channel.invariant.load;
    }

pub returns-then-is_some : goal.returns-then-is_some
returns-then-is_some c =
    rw c.from.ensures (too_long c.args.channels c.args.file.now c.in-Some.check _ _ _ _ c.next.result _ _ c.loop-channel.invariant.begins (omega arith) (sym c.is_some.ensures ∙ c.if-is_some.true) c.next.ensures.steps.0)
