use mathlib.Core.Bool.{not}
use Rattle.symbology.proofs.PairWalk.{turn_43, turn_next}
use Rattle.symbology.proofs.Writing.{frame_there, gap_enough}
use Rattle.std.proofs.Common.{true, ap}
use Rattle.symbology.proofs.Walking.{found}
use Rattle.symbology.proofs.pairs.compare_radial.Goals as goal

pub returns-in_err-p : goal.returns-in_err-p
returns-in_err-p c = frame_there true _ _ _ _ _ _ c.requires.0 c.in_err-p.ensures

pub returns-in_err-q : goal.returns-in_err-q
returns-in_err-q c = frame_there true _ _ _ _ _ _ c.requires.1 c.in_err-q.ensures

pub returns-then-not-same_f64 : goal.returns-then-not-same_f64
returns-then-not-same_f64 c = turn_43 _ _ _ _ _ _ _ _ (found _ _ _ _ _ _ c.in_ok-p.ensures) (found _ _ _ _ _ _ c.in_ok-q.ensures) c.same_f64.ensures (ap not c.if-not-same_f64.true)

pub is_disagreed-requires : goal.is_disagreed-requires
is_disagreed-requires c = (gap_enough _ _ _ _ _ _ (found _ _ _ _ _ _ c.in_ok-p.ensures), gap_enough _ _ _ _ _ _ (found _ _ _ _ _ _ c.in_ok-q.ensures))

pub returns : goal.returns
returns c = turn_next _ _ _ _ _ _ _ _ (found _ _ _ _ _ _ c.in_ok-p.ensures) (found _ _ _ _ _ _ c.in_ok-q.ensures) c.same_f64.ensures (ap not c.if-not-same_f64.false) c.is_disagreed.ensures

pub slice_bounds-is_disagreed-end : goal.slice_bounds-is_disagreed-end
slice_bounds-is_disagreed-end c = (found _ _ _ _ _ _ c.in_ok-p.ensures).inside

pub slice_bounds-is_disagreed-end-2 : goal.slice_bounds-is_disagreed-end-2
slice_bounds-is_disagreed-end-2 c = (found _ _ _ _ _ _ c.in_ok-q.ensures).inside
