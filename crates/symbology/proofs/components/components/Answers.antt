use Rattle.wire.proofs.Results.{returned}
use Rattle.symbology.proofs.Payload.{none_listed, first_refused, alone_left, alone_whole, list_stops, list_long}
use Rattle.std.proofs.Common.{arith}
use Rattle.symbology.proofs.components.components.Goals as goal

pub returns-then-n-eq0 : goal.returns-then-n-eq0
returns-then-n-eq0 c = none_listed _ _ _ _ c.if-n-eq0.true

pub returns-then-remaining-ne0 : goal.returns-then-remaining-ne0
returns-then-remaining-ne0 c = alone_left _ _ _ _ c.in_ok-plan.ensures c.if-n-eq1.true c.remaining-remaining.ensures c.if-remaining-ne0.true

pub returns-then-n-eq1 : goal.returns-then-n-eq1
returns-then-n-eq1 c = alone_whole _ _ _ _ c.in_ok-plan.ensures c.if-n-eq1.true c.remaining-remaining.ensures c.if-remaining-ne0.false

pub returns-in_err-plan : goal.returns-in_err-plan
returns-in_err-plan c = rw (returned c.from_residual.ensures.1) (first_refused _ _ _ _ c.if-n-eq0.false c.in_err-plan.ensures)

pub returns-in_err-further_components : goal.returns-in_err-further_components
returns-in_err-further_components c = rw (returned c.from_residual-in_err-further_components.ensures.1) (list_stops _ _ _ _ c.in_ok-plan.ensures (omega (arith, c.if-n-eq0.false, c.if-n-eq1.false)) c.in_err-further_components.ensures)

pub returns : goal.returns
returns c = list_long _ _ _ _ c.in_ok-plan.ensures (omega (arith, c.if-n-eq0.false, c.if-n-eq1.false)) c.in_ok-further_components.ensures
