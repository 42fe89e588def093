use Rattle.symbology.proofs.Paint.{Painted}
use Rattle.symbology.proofs.cells.write_runs.Given as goal

abbrev pub invariant-loop-b : goal.invariant-loop-b
invariant-loop-b g l = Painted g.T.Cell.cell l.runs l.initial.row l.row l.b-index l.gate
