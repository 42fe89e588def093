use Rattle.std.proofs.Common.{ap, ap₂, ◌∙◌}
use Rattle.wire.specs.Result.{answer, then}
use Rattle.wire.proofs.Results.{both, returned}
use Rattle.archive.proofs.Tests.{not_read, read_tested, radials_inside, tests_are}
use Rattle.archive.proofs.surplus.check_exact.Goals as goal

pub returns-in_err-figures : goal.returns-in_err-figures
returns-in_err-figures c = rw (returned c.from_residual.ensures.1) (not_read _ c.in_err-figures.ensures)

pub test_rows-rows-requires : goal.test_rows-rows-requires
test_rows-rows-requires c = radials_inside _ c.in_ok-figures.ensures

pub test_end-end-requires : goal.test_end-end-requires
test_end-end-requires c = radials_inside _ c.in_ok-figures.ensures

pub returns : goal.returns
returns c =
    read_tested _ c.in_ok-figures.ensures
    (ap answer c.and.ensures ∙ both _ _ ∙ ap₂ (λ r q. then r λ _. q) c.test_rows-rows.ensures c.test_end-end.ensures ∙ tests_are _ _)
