use Rattle.symbology.proofs.RunLoops.{Summed}
use Rattle.symbology.proofs.rows.block_sum.Given as goal

abbrev pub invariant-loop-b : goal.invariant-loop-b
invariant-loop-b l = Summed l.runs l.b-index l.sum
