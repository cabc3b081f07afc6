use Rattle.std.proofs.Common.{rules, subst}
use Rattle.lines.specs.Numbers.{Spells}
use Rattle.loads.specs.Loads.{packet_in}
use Rattle.answers.proofs.Rows.{no_claim_row, other_name, no_channel, other_channel, nothing_told, claimed, matched}
use Rattle.answers.proofs.results.read_claim.Goals as goal

pub returns-in_err-name : goal.returns-in_err-name
returns-in_err-name c = rw c.from_residual.ensures (no_claim_row c.args.lines.now.rest c.args.channel c.requires c.in_err-name.ensures)

pub returns-then-ne : goal.returns-then-ne
returns-then-ne c = other_name c.args.lines.now.rest c.args.channel _ _ _ _ _ c.requires c.in_ok-name.ensures (search rules)

pub returns-in_err-read_number : goal.returns-in_err-read_number
returns-in_err-read_number c = rw c.from_residual-in_err-read_number.ensures (no_channel c.args.lines.now.rest c.args.channel _ _ _ _ _ c.requires c.in_ok-name.ensures c.in_err-read_number.ensures.cases)

pub returns-then-branch-channel : goal.returns-then-branch-channel
returns-then-branch-channel c = other_channel c.args.lines.now.rest c.args.channel _ _ _ _ _ c.requires c.in_ok-name.ensures _ c.in_ok-read_number.ensures.cases.1 c.if-branch-channel.true

pub returns : goal.returns
returns c =
    matched c.read_told.result c.read_told.ensures
    (nothing_told c.args.lines.now.rest c.args.channel _ _ _ _ _ c.requires c.in_ok-name.ensures)
    (λ t x. claimed c.args.lines.now.rest c.args.channel _ _ _ _ _ c.requires c.in_ok-name.ensures t.number (packet_in t.packet) (search rules) (subst (Spells c.in_ok-name.own.now) c.if-branch-channel.false c.in_ok-read_number.ensures.cases.1) x.0 x.1 x.2)
