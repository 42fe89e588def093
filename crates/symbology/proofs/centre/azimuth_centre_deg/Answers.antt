use Rattle.symbology.specs.Centre.{centre}
use Rattle.wire.specs.Float.{f64}
use lib.Ieee.{of_bits}
use Rattle.std.proofs.Common.{refl}
use Rattle.symbology.proofs.centre.azimuth_centre_deg.Goals as goal

pub returns : goal.returns
unfolding of_bits f64 centre
returns c = rw (c.from-3.ensures, c.from.ensures, c.from-2.ensures) refl
