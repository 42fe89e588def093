use Rattle.std.proofs.Common.{arith, rules, ◌<◌}
use Rattle.wire.proofs.Patterns.{pattern_number}
use Rattle.scale.proofs.Whole.{whole_bits}
use Rattle.scale.proofs.physical.whole.Goals as goal

pub float_from_bits-result : goal.float_from_bits-result
float_from_bits-result c = let l : c.args.n < 65536 = search rules in pattern_number _ (omega (arith, c.from.ensures))

pub returns : goal.returns
returns c = rw c.from.ensures (whole_bits c.args.n (search rules))
