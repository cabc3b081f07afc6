use Rattle.std.proofs.Common.{◌≡◌, ◌++◌, string_bytes, slice_index, rules, ◌∙◌}
use Rattle.loads.specs.Loads.{packet}
use Rattle.answers.specs.Judgings.{both_line}
use Rattle.answers.specs.Judgements.{ruling_line}
use Rattle.answers.proofs.Lines.{both_begun, both_more}
use Rattle.answers.proofs.judging.judgement_text.Goals as goal

pub loop-channel-init : goal.loop-channel-init
loop-channel-init c =
    let j = c.args.judgement.now in
    both_begun j.findings.numbers j.findings.load j.claims.numbers j.claims.load (ruling_line j.ruling) (string_bytes c.in_ok-text.text) c.in_ok-text.ensures

pub loop-channel-preserved : goal.loop-channel-preserved
loop-channel-preserved c =
    let a = c.args.judgement.now.findings in
    let r = c.args.judgement.now.claims in
    let k = c.loop-channel in
    let text : string_bytes c.push_str.new.self ≡ string_bytes k.text ++ string_bytes c.in_ok-line.line = search rules in
    let line : string_bytes c.in_ok-line.line ≡ both_line k.channel (slice_index a.numbers k.channel) (packet a.load k.channel) (slice_index r.numbers k.channel) (packet r.load k.channel) =
    rw (c.told_of-ours.ensures.number, c.told_of-ours.ensures.packet, c.told_of-theirs.ensures.number, c.told_of-theirs.ensures.packet) at c.in_ok-line.ensures in
    text ∙ both_more a.numbers a.load r.numbers r.load (ruling_line c.args.judgement.now.ruling) (string_bytes k.text) (string_bytes c.in_ok-line.line) k.channel k.invariant line
