use Rattle.std.proofs.Common.{arith, rules}
use Rattle.symbology.proofs.Paint.{painted_end, painted_none, painted_over, painted_turn}
use Rattle.symbology.proofs.cells.write_runs.Goals as goal

pub loop-b-preserved-then-run-eq0 : goal.loop-b-preserved-then-run-eq0
loop-b-preserved-then-run-eq0 g c = painted_none c.requires c.loop-b.invariant (omega arith) c.from-b.ensures c.from-run.ensures c.if-run-eq0.true

pub returns-then-row-gate : goal.returns-then-row-gate
returns-then-row-gate g c = painted_over c.requires c.loop-b.invariant (omega arith) c.from-b.ensures c.from-run.ensures c.if-row-gate.true

pub loop-b-preserved : goal.loop-b-preserved
loop-b-preserved g c =
    painted_turn c.requires c.loop-b.invariant (omega arith) c.from-b.ensures c.from-run.ensures _
    (omega (arith, c.type_inv.runs c.loop-b.b-index)) c.if-row-gate.false (search rules) c.of.ensures c.spread.ensures

pub returns : goal.returns
returns g c = painted_end c.requires c.loop-b.invariant (omega arith)
