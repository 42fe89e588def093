use Rattle.std.proofs.Common.{◌+◌, ◌-◌, length}
use Rattle.symbology.proofs.RunLoops.{Reached}
use Rattle.symbology.proofs.rows.rle_reach.Given as goal

abbrev pub invariant-loop-at : goal.invariant-loop-at
invariant-loop-at l = Reached l.runs l.n l.at l.gate

abbrev pub decreases-loop-at : goal.decreases-loop-at
decreases-loop-at l = length l.runs - l.at

abbrev pub invariant-loop-b : goal.invariant-loop-b
invariant-loop-b l = Reached l.runs l.n (l.at + l.b-index) l.gate
