use Rattle.sweep.proofs.Blanking.{Blanked}
use Rattle.sweep.proofs.gap_values.blank_gaps.Given as goal

abbrev pub invariant-loop-mark : goal.invariant-loop-mark
invariant-loop-mark l = Blanked l.n_bins l.marks l.initial.physical l.physical l.cell l.mark-index
