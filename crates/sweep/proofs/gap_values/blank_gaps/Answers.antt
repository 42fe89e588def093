use native.Mathlib.Omega.{arith}
use Rattle.sweep.proofs.Blanking.{blanked_first, blanked_room, blanked_turn, blanked_end}
use Rattle.sweep.proofs.gap_values.blank_gaps.Goals as goal

pub loop-mark-init : goal.loop-mark-init
loop-mark-init c = blanked_first _ _ _ c.requires

pub overflow_add-end : goal.overflow_add-end
overflow_add-end c = let h = blanked_room _ _ c.loop-mark.invariant (omega arith) in record { fits = omega (arith, h) }

pub slice_bounds-blank_if-end : goal.slice_bounds-blank_if-end
slice_bounds-blank_if-end c = blanked_room _ _ c.loop-mark.invariant (omega arith)

pub loop-mark-preserved : goal.loop-mark-preserved
loop-mark-preserved c = blanked_turn _ _ c.loop-mark.invariant (omega arith) c.blank_if.ensures

pub returns : goal.returns
returns c = blanked_end _ _ c.loop-mark.invariant (omega arith)
