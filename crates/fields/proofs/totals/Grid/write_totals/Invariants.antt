use Rattle.fields.specs.Plan.{entries_from, entries_of}
use Rattle.fields.specs.Totals.{grid}
use Rattle.fields.proofs.Writing.{Writing}
use Rattle.fields.proofs.totals.Grid.write_totals.Given as goal

abbrev pub invariant-loop-e : goal.invariant-loop-e
invariant-loop-e l =
    Writing (grid l.self.codes.now l.self.bins l.self.floor l.self.ceiling) l.self.radials (entries_of l.plan) l.initial.out l.out
    (entries_from l.e-iterator.plan.now l.e-iterator.at) l.fields
