-- The literal 0.0 as the definitions write it. Assumes nothing.
use Rattle.std.proofs.Common.{◌≡◌, refl}
use lib.Ieee.{binary64, of_bits}
use Rattle.wire.specs.Float.{f64}

pub nought : of_bits binary64 0 ≡ f64 0 1
unfolding of_bits f64
nought = refl
