use Rattle.replay.proofs.Entries.{Entered}
use Rattle.replay.proofs.lists.read_into.Given as goal

abbrev pub invariant-loop-i : goal.invariant-loop-i
invariant-loop-i l = Entered l.fn.word l.initial.buf l.buf l.rest l.i
