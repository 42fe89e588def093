use Rattle.std.proofs.Common.{◌∙◌, refl, arith}
use Rattle.symbology.proofs.RunLoops.{block_next, block_end}
use Rattle.symbology.proofs.rows.block_sum.Goals as goal

pub loop-b-preserved : goal.loop-b-preserved
loop-b-preserved c = block_next c.loop-b.invariant c.loop-b-test.true refl (omega (arith, c.type_inv.runs c.loop-b.b-index))

pub returns : goal.returns
returns c = c.from.ensures ∙ block_end c.loop-b.invariant (omega (arith, c.loop-b-test.false))
