use Rattle.std.proofs.Common.{[], rules}
use Rattle.fields.proofs.Marking.{told_none}
use Rattle.fields.proofs.plan.first_repeat.Goals as goal

pub loop-e-init : goal.loop-e-init
loop-e-init c = record { named = []; told = told_none; left = search rules }
