use mathlib.Core.Path.{refl, ap}
use Rattle.wire.proofs.Results.{returned}
use Rattle.fields.specs.Fields.{checked_in, checked_on}
use Rattle.fields.proofs.Joined.{no_head_lem, with_rain, without, rainless}
use Rattle.fields.proofs.fields.check_totals.Goals as goal

pub returns-in_err-head : goal.returns-in_err-head
returns-in_err-head c = rw (returned c.from_residual.ensures.1) (ap checked_in (no_head_lem _ _ _ _ _ _ _ _ _ c.in_err-head.ensures))

pub returns-in_err-s-in-Precip : goal.returns-in_err-s-in-Precip
unfolding checked_on
returns-in_err-s-in-Precip c =
    rw (returned c.from_residual-in_err-s-in-Precip.ensures.1)
    (with_rain _ _ _ _ _ _ _ _ _ c.in_ok-head.head c.in_ok-head.ensures c.in-Precip.is c.in_err-s-in-Precip.ensures refl)

pub returns-in_ok-s-in-Precip : goal.returns-in_ok-s-in-Precip
returns-in_ok-s-in-Precip c = with_rain _ _ _ _ _ _ _ _ _ c.in_ok-head.head c.in_ok-head.ensures c.in-Precip.is c.in_ok-s-in-Precip.ensures c.check_plan_on.ensures

pub returns-in-Linear : goal.returns-in-Linear
returns-in-Linear c = without _ _ _ _ _ _ _ _ _ c.in_ok-head.head c.in_ok-head.ensures (rainless c.in-Linear.is) c.other_scheme.ensures
