use Rattle.wire.proofs.Results.{returned}
use Rattle.symbology.proofs.Payload.{plans_as}
use Rattle.symbology.proofs.XdrRadials.{radials_refused, radials_are}
use Rattle.symbology.proofs.XdrFrames.{framed}
use Rattle.std.proofs.Common.{refl}
use Rattle.symbology.proofs.components.radials_from.Goals as goal

pub invariant_of-plan_radials-clause-fits : goal.invariant_of-plan_radials-clause-fits
invariant_of-plan_radials-clause-fits c = (framed _ 0 _ _ _ _ _ (rw c.from.ensures at c.in_ok-first.ensures.answered)).cells refl

pub returns-in_err-first : goal.returns-in_err-first
returns-in_err-first c = rw (returned c.from_residual.ensures.1) (radials_refused _ _ _ _ _ _ (rw c.from.ensures at c.in_err-first.ensures.answered))

pub returns : goal.returns
returns c = plans_as _ _ _ (radials_are _ _ _ _ _ _ c.requires.0 (rw c.from.ensures at c.in_ok-first.ensures.answered)) c.plan_radials.ensures
