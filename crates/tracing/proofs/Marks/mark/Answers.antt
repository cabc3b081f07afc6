use Rattle.tracing.proofs.Queueing.{room, word_written, queued_mark}
use Rattle.tracing.proofs.Marks.mark.Goals as goal

pub bounds-self-self : goal.bounds-self-self
bounds-self-self c = room c.args.self.now.queued c.args.position c.requires.inside c.if-self-position-eq0.true

pub invariant_of-self : goal.invariant_of-self
invariant_of-self c = record { queued = word_written c.args.self.now.queued c.args.position c.requires.inside c.if-self-position-eq0.true }

pub invariant_of-self-then-self-position-eq0 : goal.invariant_of-self-then-self-position-eq0
invariant_of-self-then-self-position-eq0 c =
    record { queued = queued_mark c.args.self.now.queued c.args.position c.requires.inside c.if-self-position-eq0.true }
