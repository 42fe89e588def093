use Rattle.fields.specs.Plan.{entries_from, entries_of}
use Rattle.fields.proofs.Marking.{Marking}
use Rattle.fields.proofs.plan.first_repeat.Given as goal

abbrev pub invariant-loop-e : goal.invariant-loop-e
invariant-loop-e l = Marking (entries_of l.plan) (entries_from l.e-iterator.plan.now l.e-iterator.at) l.marks
