-- The zero that the code writes is the definitions'. Assumes nothing.
use Rattle.std.proofs.Common.{◌≡◌, refl}
use lib.Ieee.{binary32, binary64, of_bits}
use Rattle.wire.specs.Float.{f32, f64}

pub zero32 : of_bits binary32 0 ≡ f32 0 1
unfolding of_bits f32
zero32 = refl

pub zero64 : of_bits binary64 0 ≡ f64 0 1
unfolding of_bits f64
zero64 = refl
