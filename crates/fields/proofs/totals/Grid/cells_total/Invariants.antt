use Rattle.fields.specs.Totals.{counts}
use Rattle.fields.proofs.Sums.{Adding}
use Rattle.fields.proofs.totals.Grid.cells_total.Given as goal

abbrev pub invariant-loop-code : goal.invariant-loop-code
invariant-loop-code l = Adding (counts l.self.floor l.self.ceiling) l.cells l.total l.code-index
