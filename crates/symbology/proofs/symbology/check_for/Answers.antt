use Rattle.wire.proofs.Results.{returned}
use Rattle.std.proofs.Common.{◌∙◌, ap}
use Rattle.symbology.proofs.Decode.{figures_read, plan_figures, figures_on_terms}
use Rattle.symbology.proofs.symbology.check_for.Goals as goal

pub returns-in_err-plan : goal.returns-in_err-plan
returns-in_err-plan c = rw (returned c.from_residual.ensures.1) (ap figures_read c.in_err-plan.ensures ∙ figures_on_terms _ _ _ _)

pub returns : goal.returns
returns c = plan_figures c.in_ok-plan.ensures ∙ figures_on_terms _ _ _ _
