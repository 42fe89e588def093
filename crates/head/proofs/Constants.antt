-- The literals by which the wire's whole numbers become degrees and metres. Assumes nothing.
use Rattle.std.proofs.Common.{◌≡◌, refl}
use lib.Ieee.{binary64, of_bits}
use Rattle.wire.specs.Float.{f64}

pub thousand : of_bits binary64 0x408f400000000000 ≡ f64 1000 1
unfolding of_bits f64
thousand = refl

pub ten : of_bits binary64 0x4024000000000000 ≡ f64 10 1
unfolding of_bits f64
ten = refl

pub foot : of_bits binary64 0x3fd381d7dbf487fd ≡ f64 3048 10000
unfolding of_bits f64
foot = refl
