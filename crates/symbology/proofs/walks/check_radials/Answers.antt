use Rattle.wire.proofs.Results.{returned}
use Rattle.symbology.proofs.Walking.{checked_first, checked_stretch, checked_stop, checked_end}
use Rattle.wire.specs.Result.{answer}
use Rattle.std.proofs.Common.{ap}
use Rattle.symbology.proofs.walks.check_radials.Goals as goal

pub loop-r-init : goal.loop-r-init
loop-r-init c = checked_first _ _ _ _ _ _

pub returns-in_err-end : goal.returns-in_err-end
returns-in_err-end c = rw (returned c.from_residual.ensures.1) (checked_stop _ _ _ _ _ c.loop-r.invariant _ c.check_stretch-x.ensures.q_value (ap answer c.in_err-end.was))

pub loop-r-preserved : goal.loop-r-preserved
loop-r-preserved c = checked_stretch _ _ _ _ _ c.loop-r.invariant _ c.check_stretch-x.ensures.q_value c.check_stretch-x.ensures.first_lt_checked.1 (ap answer c.in_ok-end.was)

pub returns : goal.returns
returns c = checked_end _ _ _ _ _ c.loop-r.invariant c.loop-r-test.false
