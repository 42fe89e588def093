use Rattle.std.proofs.Common.{true, sym, ap, ◌∙◌}
use Rattle.wire.specs.Result.{answer}
use Rattle.symbology.proofs.Walking.{found}
use Rattle.symbology.proofs.Writing.{frame_ok, gap_enough, gap_radial}
use Rattle.symbology.proofs.Showing.{cells_centre}
use Rattle.symbology.proofs.PairWalk.{second_next, both_shown}
use Rattle.symbology.proofs.pairs.merge_radial.Goals as goal

pub unwrap-p-requires : goal.unwrap-p-requires
unwrap-p-requires c = frame_ok true _ _ _ _ _ _ _ c.requires.1 c.frame_span.ensures

pub unwrap-q-requires : goal.unwrap-q-requires
unwrap-q-requires c = frame_ok true _ _ _ _ _ _ _ c.requires.2 c.frame_span-2.ensures

pub slice_bounds-merge_row-end : goal.slice_bounds-merge_row-end
slice_bounds-merge_row-end c = (found _ _ _ _ _ _ (ap answer (sym c.unwrap-p.ensures) ∙ c.frame_span.ensures)).inside

pub slice_bounds-merge_row-end-2 : goal.slice_bounds-merge_row-end-2
slice_bounds-merge_row-end-2 c = (found _ _ _ _ _ _ (ap answer (sym c.unwrap-q.ensures) ∙ c.frame_span-2.ensures)).inside

pub merge_row-mark-requires : goal.merge_row-mark-requires
merge_row-mark-requires c = rw c.requires.0 (gap_enough _ _ _ _ _ _ (found _ _ _ _ _ _ (ap answer (sym c.unwrap-p.ensures) ∙ c.frame_span.ensures)), gap_enough _ _ _ _ _ _ (found _ _ _ _ _ _ (ap answer (sym c.unwrap-q.ensures) ∙ c.frame_span-2.ensures)))

pub returns : goal.returns
returns c = let f = (found _ _ _ _ _ _ (ap answer (sym c.unwrap-p.ensures) ∙ c.frame_span.ensures)) in let g = (found _ _ _ _ _ _ (ap answer (sym c.unwrap-q.ensures) ∙ c.frame_span-2.ensures)) in let w = both_shown _ _ _ _ _ _ _ _ f g (rw c.requires.0 at c.merge_row-mark.ensures.value) (rw c.requires.0 at c.merge_row-mark.ensures.row_after) in record { first_value = cells_centre _ _ _ _ _ _ f true (_, gap_radial _ _ _ _ _ _ f); second_value = second_next _ _ _ _ _ _ _ _ f g; mark_value = w.0; row_after = w.1 }
