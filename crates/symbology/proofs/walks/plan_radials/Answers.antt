use Rattle.wire.proofs.Results.{returned}
use Rattle.symbology.proofs.Payload.{plan_refused, plan_value}
use Rattle.symbology.proofs.walks.plan_radials.Goals as goal

pub returns-in_err-next : goal.returns-in_err-next
returns-in_err-next c = rw (returned c.from_residual.ensures.1) (plan_refused _ _ _ _ c.in_err-next.ensures)

pub returns : goal.returns
returns c = plan_value _ _ _ _ c.in_ok-next.ensures
