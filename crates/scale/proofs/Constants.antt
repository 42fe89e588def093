-- The literals of the code as the definitions write them. Assumes nothing.
use Rattle.std.proofs.Common.{◌≡◌, refl}
use lib.Ieee.{binary32, neg, of_bits}
use Rattle.wire.specs.Float.{f32}

pub nought : of_bits binary32 0x0 ≡ f32 0 1
unfolding of_bits f32
nought = refl

pub one : of_bits binary32 0x3f800000 ≡ f32 1 1
unfolding of_bits f32
one = refl

pub minus_one : of_bits binary32 0xbf800000 ≡ neg (f32 1 1)
unfolding neg of_bits f32
minus_one = refl

pub two : of_bits binary32 0x40000000 ≡ f32 2 1
unfolding of_bits f32
two = refl

pub ten : of_bits binary32 0x41200000 ≡ f32 10 1
unfolding of_bits f32
ten = refl

pub twenty : of_bits binary32 0x41a00000 ≡ f32 20 1
unfolding of_bits f32
twenty = refl

pub hundred : of_bits binary32 0x42c80000 ≡ f32 100 1
unfolding of_bits f32
hundred = refl
