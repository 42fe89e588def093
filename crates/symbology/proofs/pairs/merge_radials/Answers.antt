use Rattle.std.proofs.Common.{arith, rules}
use Rattle.symbology.proofs.Merging.{merging_first, merging_both, merging_room, merging_part, merging_next, merging_centres, merging_rows, merging_marks}
use Rattle.symbology.proofs.pairs.merge_radials.Goals as goal

pub loop-r-init : goal.loop-r-init
loop-r-init c = (c.requires.both_accepted.0, c.requires.both_accepted.1, merging_first _ _ _ _ _ _ _ _ _ _ c.requires.both_accepted.0 c.requires.both_accepted.1 c.requires.n_radials_in_bounds.0 c.requires.n_radials_in_bounds.1 c.requires.n_radials_in_bounds.2)

pub overflow_add-end : goal.overflow_add-end
overflow_add-end c = let h = merging_room _ _ _ _ _ c.loop-r.invariant.2 c.loop-r-test.true in record { fits = omega (arith, h.1) }

pub slice_bounds-merge_radial-end : goal.slice_bounds-merge_radial-end
slice_bounds-merge_radial-end c = (merging_room _ _ _ _ _ c.loop-r.invariant.2 c.loop-r-test.true).1

pub merge_radial-merged-requires : goal.merge_radial-merged-requires
merge_radial-merged-requires c = let p = merging_both _ _ _ _ _ c.loop-r.invariant.2 c.loop-r-test.true in rw (merging_part _ _ _ _ _ c.loop-r.invariant.2 c.loop-r-test.true) (search rules, p.0, p.1)

pub bounds-azimuths-r : goal.bounds-azimuths-r
bounds-azimuths-r c = (merging_room _ _ _ _ _ c.loop-r.invariant.2 c.loop-r-test.true).0

pub bounds-marks-r : goal.bounds-marks-r
bounds-marks-r c = (merging_room _ _ _ _ _ c.loop-r.invariant.2 c.loop-r-test.true).2

pub loop-r-preserved : goal.loop-r-preserved
loop-r-preserved c = (c.loop-r.invariant.0, c.loop-r.invariant.1, merging_next _ _ _ _ _ c.loop-r.invariant.2 c.loop-r-test.true c.merge_radial-merged.ensures.first_value c.merge_radial-merged.ensures.second_value c.merge_radial-merged.ensures.mark_value c.merge_radial-merged.ensures.row_after)

pub returns : goal.returns
returns c = rw (c.loop-r.invariant.0.1, c.loop-r.invariant.1.1) (record { azimuths_after = merging_centres _ _ _ _ _ c.loop-r.invariant.2 (omega arith); codes_after = merging_rows _ _ _ _ _ c.loop-r.invariant.2 (omega arith); marks_after = merging_marks _ _ _ _ _ c.loop-r.invariant.2 (omega arith) })
