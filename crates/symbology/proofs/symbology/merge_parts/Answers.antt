use Rattle.wire.proofs.Results.{returned}
use Rattle.symbology.proofs.Decode.{admit_room}
use Rattle.symbology.proofs.MergeDecode.{parts_judged, parts_halted, parts_no_marks, parts_written}
use Rattle.symbology.proofs.symbology.merge_parts.Goals as goal

pub compare_radials-requires : goal.compare_radials-requires
compare_radials-requires c = (c.requires.0, c.requires.1)

pub returns-then-marks-grid : goal.returns-then-marks-grid
returns-then-marks-grid c = parts_no_marks _ _ _ _ _ _ _ _ _ c.requires.0 c.requires.1 c.in_ok-compare_radials.ensures c.in_ok-test_terms.ensures c.if-marks-grid.true

pub merge_radials-requires : goal.merge_radials-requires
merge_radials-requires c = let room = admit_room _ _ _ _ c.in_ok-test_terms.ensures in (record { both_accepted = (c.requires.0, c.requires.1); n_radials_in_bounds = (room.0, room.1, c.if-marks-grid.false) })

pub returns-in_err-compare_radials : goal.returns-in_err-compare_radials
returns-in_err-compare_radials c = rw (returned c.from_residual.ensures.1) (parts_judged _ _ _ _ _ _ _ _ _ c.in_err-compare_radials.ensures)

pub returns-in_err-test_terms : goal.returns-in_err-test_terms
returns-in_err-test_terms c = rw (returned c.from_residual-in_err-test_terms.ensures.1) (parts_halted _ _ _ _ _ _ _ _ _ c.requires.0 c.requires.1 c.in_ok-compare_radials.ensures c.in_err-test_terms.ensures)

pub returns : goal.returns
returns c = parts_written _ _ _ _ _ _ _ _ _ c.requires.0 c.requires.1 c.in_ok-compare_radials.ensures c.in_ok-test_terms.ensures c.if-marks-grid.false c.merge_radials.ensures.azimuths_after c.merge_radials.ensures.codes_after c.merge_radials.ensures.marks_after
