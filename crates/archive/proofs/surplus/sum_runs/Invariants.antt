use Rattle.archive.proofs.RunSums.{Summed}
use Rattle.archive.proofs.surplus.sum_runs.Given as goal

abbrev pub invariant-loop-b : goal.invariant-loop-b
invariant-loop-b l = Summed l.runs l.sum l.b-index
