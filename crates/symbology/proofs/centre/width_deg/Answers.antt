use Rattle.symbology.specs.Centre.{width_degrees}
use Rattle.wire.specs.Float.{f32}
use lib.Ieee.{of_bits}
use Rattle.std.proofs.Common.{refl}
use Rattle.symbology.proofs.centre.width_deg.Goals as goal

pub returns : goal.returns
unfolding of_bits f32 width_degrees
returns c = rw c.from.ensures refl
