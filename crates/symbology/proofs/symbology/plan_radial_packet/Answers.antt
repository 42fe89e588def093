use Rattle.wire.proofs.Results.{returned}
use Rattle.symbology.proofs.Beams.{header_cut, header_counts}
use Rattle.symbology.proofs.Bodies.{radial_header_refused, radial_small, radial_run, radial_plotted}
use Rattle.std.proofs.Common.{◌∙◌, sym}
use Rattle.symbology.proofs.symbology.plan_radial_packet.Goals as goal

pub returns-then-len-lt30 : goal.returns-then-len-lt30
returns-then-len-lt30 c = radial_header_refused _ _ c.requires.1 _ (header_cut _ _ c.requires.1 c.requires.0 c.if-len-lt30.true)

pub invariant_of-plan_radials-clause-few : goal.invariant_of-plan_radials-clause-few
invariant_of-plan_radials-clause-few c = (radial_small _ _ c.requires.1 (header_counts _ _ c.requires.1 c.if-len-lt30.false (rw c.first_bin.ensures at c.in_ok-h.ensures)) c.type_inv.body).0

pub invariant_of-plan_radials-clause-fits : goal.invariant_of-plan_radials-clause-fits
invariant_of-plan_radials-clause-fits c = (radial_small _ _ c.requires.1 (header_counts _ _ c.requires.1 c.if-len-lt30.false (rw c.first_bin.ensures at c.in_ok-h.ensures)) c.type_inv.body).1

pub returns-in_err-h : goal.returns-in_err-h
returns-in_err-h c = rw (returned c.from_residual.ensures.1) (radial_header_refused _ _ c.requires.1 _ (header_counts _ _ c.requires.1 c.if-len-lt30.false (rw c.first_bin.ensures at c.in_err-h.ensures)))

pub returns-in_err-plan : goal.returns-in_err-plan
returns-in_err-plan c = rw (returned c.from_residual-in_err-plan.ensures.1) (c.in_err-plan.ensures ∙ sym (radial_run _ _ c.requires.1 (header_counts _ _ c.requires.1 c.if-len-lt30.false (rw c.first_bin.ensures at c.in_ok-h.ensures)) _))

pub returns : goal.returns
returns c = rw c.in_part.ensures (radial_plotted _ _ c.requires.1 (header_counts _ _ c.requires.1 c.if-len-lt30.false (rw c.first_bin.ensures at c.in_ok-h.ensures)) c.in_ok-plan.ensures)
