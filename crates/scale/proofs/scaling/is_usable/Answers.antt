use Rattle.std.proofs.Common.{sym}
use Rattle.wire.specs.Float.{f32}
use lib.Ieee.{of_bits, ne}
use Rattle.scale.proofs.scaling.is_usable.Goals as goal

pub returns-then-is_finite : goal.returns-then-is_finite
unfolding of_bits f32 ne
returns-then-is_finite c = simp (sym c.is_finite.ensures, c.if-is_finite.true)
