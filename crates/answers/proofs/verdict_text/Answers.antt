use Rattle.std.proofs.Common.{◌≡◌, ◌++◌, string_bytes, slice_index, rules, ◌∙◌}
use Rattle.loads.specs.Loads.{packet}
use Rattle.answers.specs.Prints.{verdict_line, channel_line}
use Rattle.answers.proofs.Lines.{begun, one_more}
use Rattle.answers.proofs.verdict_text.Goals as goal

pub loop-channel-init : goal.loop-channel-init
loop-channel-init c =
    let f = c.args.findings.now in
    begun f.numbers f.load (verdict_line f.certificate.check) (string_bytes c.in_ok-text.text) c.in_ok-text.ensures

pub loop-channel-preserved : goal.loop-channel-preserved
loop-channel-preserved c =
    let f = c.args.findings.now in
    let k = c.loop-channel in
    let text : string_bytes c.push_str.new.self ≡ string_bytes k.text ++ string_bytes c.in_ok-line.line = search rules in
    let line : string_bytes c.in_ok-line.line ≡ channel_line k.channel (slice_index f.numbers k.channel) (packet f.load k.channel) = rw (c.told_of-told.ensures.number, c.told_of-told.ensures.packet) at c.in_ok-line.ensures in
    text ∙ one_more f.numbers f.load (verdict_line f.certificate.check) (string_bytes k.text) (string_bytes c.in_ok-line.line) k.channel k.invariant line
