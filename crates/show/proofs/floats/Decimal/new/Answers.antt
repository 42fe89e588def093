use Rattle.std.proofs.Common.{arith}
use native.Mathlib.Nat.{one-le-pow}
use Rattle.show.proofs.floats.Decimal.new.Goals as goal

pub nonzero_div-result : goal.nonzero_div-result
nonzero_div-result c = rw c.pow-unit.ensures (one-le-pow _ 10 (omega arith))

pub nonzero_rem-result : goal.nonzero_rem-result
nonzero_rem-result c = rw c.pow-unit.ensures (one-le-pow _ 10 (omega arith))
