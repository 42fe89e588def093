use Rattle.archive.proofs.Tests.{Exacting}
use Rattle.archive.proofs.surplus.test_beams.Given as goal

abbrev pub invariant-loop-r : goal.invariant-loop-r
invariant-loop-r l = Exacting l.figures l.body l.r l.at
