use Rattle.std.proofs.Common.{ℕ, ◌*◌, ◌%◌, ap, ◌∙◌, arith}
use Rattle.std.proofs.Math.Nat.{mod-lt}
use Rattle.symbology.proofs.Remainder.{twice}
use Rattle.symbology.proofs.centre.doubled.Goals as goal

pub loop-preserved : goal.loop-preserved
loop-preserved c = (mod-lt _ (omega arith), ap (λ (r : ℕ). r * 2 % 360) c.loop.invariant.1 ∙ twice c.args.n c.loop.counter)
