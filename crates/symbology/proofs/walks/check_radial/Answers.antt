use Rattle.wire.proofs.Results.{returned}
use Rattle.symbology.proofs.Walking.{found, radial_refused, radial_row}
use Rattle.std.proofs.Common.{arith}
use Rattle.symbology.proofs.walks.check_radial.Goals as goal

pub slice_bounds-data-count : goal.slice_bounds-data-count
slice_bounds-data-count c = let f = found _ _ _ _ _ _ c.in_ok-place.ensures in omega (arith, f.to_is)

pub slice_bounds-data-start : goal.slice_bounds-data-start
slice_bounds-data-start c = let f = found _ _ _ _ _ _ c.in_ok-place.ensures in omega (arith, f.to_is)

pub slice_bounds-data-end : goal.slice_bounds-data-end
slice_bounds-data-end c = (found _ _ _ _ _ _ c.in_ok-place.ensures).inside

pub returns-in_err-place : goal.returns-in_err-place
returns-in_err-place c = rw (returned c.from_residual.ensures.1) (radial_refused _ _ _ _ _ _ _ c.in_err-place.ensures)

pub returns-in_err-check_row : goal.returns-in_err-check_row
returns-in_err-check_row c = rw (returned c.from_residual-in_err-check_row.ensures.1) (radial_row _ _ _ _ _ _ (found _ _ _ _ _ _ c.in_ok-place.ensures) _ c.in_err-check_row.ensures)

pub returns : goal.returns
returns c = radial_row _ _ _ _ _ _ (found _ _ _ _ _ _ c.in_ok-place.ensures) _ c.in_ok-check_row.ensures
