-- The literals of the code as the definitions write them. Assumes nothing.
use Rattle.std.proofs.Common.{◌≡◌, refl}
use lib.Ieee.{binary32, of_bits}
use Rattle.wire.specs.Float.{f32}
use Rattle.catalogue.specs.Catalogue.{knot, inch}

pub knot_lem : of_bits binary32 0x3f03b29a ≡ knot
unfolding of_bits f32
knot_lem = refl

pub inch_lem : of_bits binary32 0x41cb3333 ≡ inch
unfolding of_bits f32
inch_lem = refl

pub one_hundredth : of_bits binary32 0x3c23d70a ≡ f32 1 100
unfolding of_bits f32
one_hundredth = refl
