use Rattle.std.proofs.Common.{◌≡◌, ◌+◌, ◌-◌, arith}
use Rattle.symbology.proofs.RunLoops.{reached_block}
use Rattle.symbology.proofs.rows.rle_reach.Goals as goal

pub loop-at-preserved : goal.loop-at-preserved
loop-at-preserved c =
    let e : c.loop-at.at + 16 - c.loop-at.at ≡ 16 = omega arith in
    reached_block c.loop-at.invariant (omega (arith, c.loop-at-test.true)) (rw e at c.block_sum-sum.ensures) (omega (arith, c.if-n-gate.false))
