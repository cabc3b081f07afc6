use Rattle.editor.specs.Entry.{Places}
use Rattle.editor.proofs.tell_places.Given as goal

abbrev pub invariant-loop-channel : goal.invariant-loop-channel
invariant-loop-channel l = Places l.channel l.load l.initial.places l.places
