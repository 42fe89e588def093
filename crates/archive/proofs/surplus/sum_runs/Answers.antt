use Rattle.std.proofs.Common.{arith}
use Rattle.archive.proofs.RunSums.{summed_turn, summed_end}
use Rattle.archive.proofs.surplus.sum_runs.Goals as goal

pub loop-b-preserved : goal.loop-b-preserved
loop-b-preserved c = summed_turn c.loop-b.invariant (omega arith) c.run_of-sum.ensures

pub returns : goal.returns
returns c = summed_end c.loop-b.invariant (omega arith)
