use Rattle.wire.specs.Float.{f32}
use lib.Ieee.{of_bits}
use borrow.Author.Rules.{rules}
use Rattle.scale.proofs.scaling.linear_hw.Goals as goal

pub returns : goal.returns
unfolding of_bits f32
returns c = search rules
