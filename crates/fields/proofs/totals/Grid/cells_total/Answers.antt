use Rattle.std.proofs.Common.{arith, rules}
use Rattle.fields.proofs.Sums.{adding_turn, adding_end, to_ceiling}
use Rattle.fields.proofs.totals.Grid.cells_total.Goals as goal

pub loop-code-preserved : goal.loop-code-preserved
loop-code-preserved c = adding_turn c.loop-code.invariant (omega arith) (to_ceiling _ _ _ c.top_of-top.ensures c.counted-total.ensures)

pub returns : goal.returns
returns c = adding_end c.loop-code.invariant (omega arith) (search rules)
