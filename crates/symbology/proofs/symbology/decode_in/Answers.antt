use Rattle.std.proofs.Common.{sym, ◌∙◌}
use Rattle.wire.proofs.Results.{returned}
use Rattle.symbology.proofs.Decode.{was_passed, admit_room, radials_there}
use Rattle.symbology.proofs.GapDecode.{in_refused, in_no_marks, in_is, marks_room}
use Rattle.symbology.proofs.symbology.decode_in.Goals as goal

pub returns-then-no_marks : goal.returns-then-no_marks
returns-then-no_marks c = in_no_marks _ _ _ _ _ _ c.in_ok-plan.ensures (sym c.no_marks.ensures ∙ c.if-no_marks.true)

pub slice_bounds-write_radials-count : goal.slice_bounds-write_radials-count
slice_bounds-write_radials-count c = c.in_ok-plan.ensures.ordered

pub slice_bounds-write_radials-start : goal.slice_bounds-write_radials-start
slice_bounds-write_radials-start c = c.in_ok-plan.ensures.ordered

pub slice_bounds-write_radials-end : goal.slice_bounds-write_radials-end
slice_bounds-write_radials-end c = c.in_ok-plan.ensures.inside

pub write_radials-requires : goal.write_radials-requires
write_radials-requires c = let p = c.in_ok-plan.ensures in let room = admit_room _ _ _ _ (was_passed _ _ p) in (record { radials_accepted = (p.radials, radials_there _ _ p); n_radials_in_bounds = (room.0, room.1, marks_room _ _ _ (sym c.no_marks.ensures ∙ c.if-no_marks.false)) })

pub returns-in_err-plan : goal.returns-in_err-plan
returns-in_err-plan c = rw (returned c.from_residual.ensures.1) (in_refused _ _ _ _ _ _ _ c.in_err-plan.ensures)

pub returns : goal.returns
returns c = in_is _ _ _ _ _ _ c.in_ok-plan.ensures (sym c.no_marks.ensures ∙ c.if-no_marks.false) c.write_radials.ensures.azimuths_after c.write_radials.ensures.codes_after c.write_radials.ensures.marks_after
