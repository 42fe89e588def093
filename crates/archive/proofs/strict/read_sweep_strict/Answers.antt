use Rattle.wire.proofs.Results.{returned}
use Rattle.archive.proofs.Profile.{head_refused, body_refused, passed_on}
use Rattle.archive.proofs.strict.read_sweep_strict.Goals as goal

pub returns-in_err-read_head : goal.returns-in_err-read_head
returns-in_err-read_head c = rw (returned c.from_residual.ensures.1) (head_refused _ _ _ _ _ c.in_err-read_head.ensures)

pub returns-in_err-check_exact : goal.returns-in_err-check_exact
returns-in_err-check_exact c = rw (returned c.from_residual-in_err-check_exact.ensures.1) (body_refused _ _ _ _ _ c.in_ok-read_head.ensures c.in_err-check_exact.ensures)

pub returns : goal.returns
returns c = passed_on _ _ _ _ _ c.in_ok-check_exact.ensures c.read_sweep.ensures
