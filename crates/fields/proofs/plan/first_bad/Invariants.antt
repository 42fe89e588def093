use Rattle.fields.specs.Plan.{entries_from, entries_of}
use Rattle.fields.proofs.Walk.{Bads}
use Rattle.fields.proofs.plan.first_bad.Given as goal

abbrev pub invariant-loop-e : goal.invariant-loop-e
invariant-loop-e l = Bads (entries_of l.plan) (entries_from l.e-iterator.plan.now l.e-iterator.at) l.fields l.strips
