use Rattle.wire.proofs.Results.{returned}
use Rattle.std.proofs.Common.{◌∙◌, ap}
use Rattle.symbology.proofs.Decode.{figures_read, plan_figures, body_figures}
use Rattle.symbology.proofs.symbology.check.Goals as goal

pub returns-in_err-plan : goal.returns-in_err-plan
returns-in_err-plan c = rw (returned c.from_residual.ensures.1) (ap figures_read c.in_err-plan.ensures ∙ body_figures _)

pub returns : goal.returns
returns c = plan_figures c.in_ok-plan.ensures ∙ body_figures _
