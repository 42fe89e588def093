use Rattle.wire.specs.Float.{f32}
use Rattle.show.proofs.Decimals.{ten_power}
use Rattle.std.proofs.Common.{arith}
use lib.Ieee.{of_bits}
use Rattle.show.proofs.words.ten_to.Goals as goal

pub returns : goal.returns
unfolding of_bits f32
returns c = ten_power c.args.k (omega arith)
