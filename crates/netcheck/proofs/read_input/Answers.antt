use Rattle.std.proofs.Common.{rules, length, le_refl, ◌-◌, subst}
use Rattle.std.proofs.lemmas.Slice.{take-put_mid_below}
use Rattle.std.specs.Io.KnownBytes.{Consumes}
use Rattle.std.proofs.KnownBytes.{Consumes-trans}
use Rattle.netcheck.proofs.Inputs.{grown}
use Rattle.netcheck.proofs.read_input.Goals as goal

pub loop-len-preserved : goal.loop-len-preserved
loop-len-preserved g c =
    let from = c.loop-len.len in
    let within = c.loop-len.invariant.1 in
    let more = grown from (length c.loop-len.buffer - from) c.in_ok-n.n c.loop-len.buffer c.read.new.buf within c.in_ok-n.ensures.bound.0 (take-put_mid_below _ _ _ _ _ (le_refl _) within) in
    (search rules, search rules, subst (Consumes _ _) more (Consumes-trans _ _ _ _ _ c.loop-len.invariant.2 c.in_ok-n.ensures.bytes.0))
