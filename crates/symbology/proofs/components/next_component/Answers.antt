use Rattle.wire.proofs.Results.{returned}
use Rattle.symbology.proofs.Payload.{pointer_halted, pointer_passed, plan_stops, plan_ends}
use Rattle.xdr.specs.Xdr.{pointer}
use Rattle.symbology.specs.Symbology.{component}
use Rattle.std.proofs.Common.{◌∙◌, sym}
use Rattle.symbology.proofs.components.next_component.Goals as goal

pub returns-in_err-skip : goal.returns-in_err-skip
unfolding pointer
returns-in_err-skip c = rw (returned c.from_residual.ensures.1) (pointer_halted _ component _ _ (rw c.from-c.ensures at c.in_err-skip.ensures.answered))

pub returns-in_err-plan : goal.returns-in_err-plan
unfolding pointer
returns-in_err-plan c = rw (returned c.from_residual-in_err-plan.ensures.1) (plan_stops _ _ _ (rw c.position.ensures at c.in_err-plan.ensures) ∙ sym (pointer_passed _ component _ _ (rw c.from-c.ensures at c.in_ok-skip.ensures.answered)))

pub returns : goal.returns
unfolding pointer
returns c = plan_ends _ _ _ (rw c.position.ensures at c.in_ok-plan.ensures) ∙ sym (pointer_passed _ component _ _ (rw c.from-c.ensures at c.in_ok-skip.ensures.answered))
