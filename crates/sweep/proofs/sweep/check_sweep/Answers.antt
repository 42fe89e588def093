use mathlib.Core.Path.{refl, ap}
use Rattle.wire.proofs.Results.{returned}
use Rattle.sweep.specs.Sweep.{sweep_in}
use Rattle.sweep.proofs.Reading.{no_head_lem, check_refused, check_answers}
use Rattle.sweep.proofs.sweep.check_sweep.Goals as goal

pub returns-in_err-head : goal.returns-in_err-head
returns-in_err-head c = rw (returned c.from_residual.ensures.1) (ap sweep_in (no_head_lem _ _ _ _ _ _ _ c.in_err-head.ensures))

pub returns-in_err-figures : goal.returns-in_err-figures
returns-in_err-figures c =
    rw (returned c.from_residual-in_err-figures.ensures.1)
    (check_refused _ _ _ _ _ _ _ c.in_ok-head.head _ c.terms_for-terms.result c.in_ok-head.ensures refl c.terms_for-terms.ensures c.in_err-figures.ensures)

pub returns : goal.returns
returns c = check_answers _ _ _ _ _ _ _ c.in_ok-head.head _ c.terms_for-terms.result c.in_ok-head.ensures refl c.terms_for-terms.ensures c.in_ok-figures.ensures c.accepted.ensures
