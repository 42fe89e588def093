use mathlib.Core.Bool.{not}
use Rattle.std.proofs.Common.{ap}
use Rattle.wire.proofs.Results.{returned}
use Rattle.symbology.proofs.MergeDecode.{first_refused, second_refused, other_figures, first_radials, second_radials, both_merged}
use Rattle.symbology.proofs.symbology.merge_pictures.Goals as goal

pub returns-then-not-same_figures : goal.returns-then-not-same_figures
returns-then-not-same_figures c = other_figures _ _ _ _ _ _ c.in_ok-p.ensures c.in_ok-q.ensures c.same_figures.ensures (ap not c.if-not-same_figures.true)

pub slice_bounds-merge_parts-count : goal.slice_bounds-merge_parts-count
slice_bounds-merge_parts-count c = c.in_ok-p.ensures.ordered

pub slice_bounds-merge_parts-start : goal.slice_bounds-merge_parts-start
slice_bounds-merge_parts-start c = c.in_ok-p.ensures.ordered

pub slice_bounds-merge_parts-end : goal.slice_bounds-merge_parts-end
slice_bounds-merge_parts-end c = c.in_ok-p.ensures.inside

pub slice_bounds-merge_parts-count-2 : goal.slice_bounds-merge_parts-count-2
slice_bounds-merge_parts-count-2 c = c.in_ok-q.ensures.ordered

pub slice_bounds-merge_parts-start-2 : goal.slice_bounds-merge_parts-start-2
slice_bounds-merge_parts-start-2 c = c.in_ok-q.ensures.ordered

pub slice_bounds-merge_parts-end-2 : goal.slice_bounds-merge_parts-end-2
slice_bounds-merge_parts-end-2 c = c.in_ok-q.ensures.inside

pub merge_parts-requires : goal.merge_parts-requires
merge_parts-requires c = let p = c.in_ok-p.ensures in let q = c.in_ok-q.ensures in (first_radials _ _ _ c.args.azimuths.now c.args.codes.now c.args.marks.now p q c.same_figures.ensures (ap not c.if-not-same_figures.false), second_radials _ _ _ c.args.azimuths.now c.args.codes.now c.args.marks.now p q c.same_figures.ensures (ap not c.if-not-same_figures.false))

pub returns-in_err-p : goal.returns-in_err-p
returns-in_err-p c = rw (returned c.from_residual.ensures.1) (first_refused _ _ _ _ _ _ c.in_err-p.ensures)

pub returns-in_err-q : goal.returns-in_err-q
returns-in_err-q c = rw (returned c.from_residual-in_err-q.ensures.1) (second_refused _ _ _ _ _ _ c.in_ok-p.ensures c.in_err-q.ensures)

pub returns : goal.returns
returns c = both_merged _ _ _ c.args.azimuths.now c.args.codes.now c.args.marks.now c.in_ok-p.ensures c.in_ok-q.ensures c.same_figures.ensures (ap not c.if-not-same_figures.false) c.merge_parts.ensures
