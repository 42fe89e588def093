use Rattle.symbology.specs.Centre.{centre28}
use Rattle.wire.specs.Float.{f64}
use lib.Ieee.{of_bits}
use Rattle.symbology.proofs.centre.azimuth_centre_28.Goals as goal

pub returns : goal.returns
unfolding of_bits f64 centre28
returns c = cc (c.f32_to_f64_with_nan.ensures, c.f32_to_f64_with_nan-2.ensures)
