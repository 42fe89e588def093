use Rattle.std.proofs.Common.{arith, sym, ap, ◌∙◌}
use Rattle.symbology.proofs.Walking.{found}
use Rattle.wire.specs.Result.{answer}
use Rattle.symbology.proofs.Writing.{frame_ok}
use Rattle.symbology.proofs.Showing.{cells_ready, cells_centre, cells_mark, cells_written}
use Rattle.symbology.proofs.walks.write_radial.Goals as goal

pub slice_bounds-write_cells-count : goal.slice_bounds-write_cells-count
slice_bounds-write_cells-count c = let f = (found _ _ _ _ _ _ (ap answer (sym c.unwrap-place.ensures) ∙ c.frame_span.ensures)) in omega (arith, f.to_is)

pub slice_bounds-write_cells-start : goal.slice_bounds-write_cells-start
slice_bounds-write_cells-start c = let f = (found _ _ _ _ _ _ (ap answer (sym c.unwrap-place.ensures) ∙ c.frame_span.ensures)) in omega (arith, f.to_is)

pub slice_bounds-write_cells-end : goal.slice_bounds-write_cells-end
slice_bounds-write_cells-end c = (found _ _ _ _ _ _ (ap answer (sym c.unwrap-place.ensures) ∙ c.frame_span.ensures)).inside

pub write_cells-mark-requires : goal.write_cells-mark-requires
write_cells-mark-requires c = rw c.requires.0 (cells_ready _ _ _ _ _ _ (found _ _ _ _ _ _ (ap answer (sym c.unwrap-place.ensures) ∙ c.frame_span.ensures)) _ c.requires.1)

pub returns : goal.returns
returns c = let f = (found _ _ _ _ _ _ (ap answer (sym c.unwrap-place.ensures) ∙ c.frame_span.ensures)) in (record { next_value = cells_centre _ _ _ _ _ _ f _ c.requires.1; mark_value = cells_mark _ _ _ _ _ _ f _ c.requires.1 (rw c.requires.0 at c.write_cells-mark.ensures.value); row_after = cells_written _ _ _ _ _ _ f _ c.requires.1 (rw c.requires.0 at c.write_cells-mark.ensures.row_after) })

pub unwrap-place-requires : goal.unwrap-place-requires
unwrap-place-requires c = frame_ok _ _ _ _ _ _ _ _ c.requires.1 c.frame_span.ensures
