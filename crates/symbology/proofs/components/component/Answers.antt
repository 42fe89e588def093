use Rattle.wire.proofs.Results.{returned}
use Rattle.symbology.proofs.Payload.{component_refused, component_at, head_small, plans_as}
use Rattle.symbology.proofs.components.component.Goals as goal

pub radials_from-requires : goal.radials_from-requires
radials_from-requires c = head_small _ _ (rw c.from-c.ensures at c.in_ok-gates.ensures.answered)

pub returns-in_err-gates : goal.returns-in_err-gates
returns-in_err-gates c = rw (returned c.from_residual.ensures.1) (component_refused _ _ _ (rw c.from-c.ensures at c.in_err-gates.ensures.answered))

pub returns : goal.returns
returns c = plans_as _ _ _ (component_at _ _ _ (rw c.from-c.ensures at c.in_ok-gates.ensures.answered)) (rw c.position.ensures at c.radials_from.ensures)
