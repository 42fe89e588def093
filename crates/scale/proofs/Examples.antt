-- Worked examples, computed from the definitions: lines P11 and P12 of document 01, the ranges that the Rust's comments give, and floats
-- at the edges. Assumes nothing.
use mathlib.Core.Path.{◌≡◌, refl, sym, ◌∙◌}
use mathlib.Core.Bool.{Bool, true, false}
use mathlib.Core.List.{[], ◌∷◌}
use Prim.Native.Nat.{ℕ, ◌<◌}
use native.Mathlib.Omega.{arith}
use lib.Dec.{leb}
use lib.IntN.{negsuc}
use lib.Ieee.{Float, binary32, nan, inf, fin, neg, add, sub, mul, div, eq, le, of_int, of_bits}
use borrow.Author.Tests.{leb-true, lt-leb}
use Rattle.wire.specs.Float.{f32}
use Rattle.wire.specs.Refusal.{kind, float}
use Rattle.wire.specs.Result.{accepted, refused}
use Rattle.std.specs.Prelude.{Some, None}
use Rattle.scale.specs.declared.physical.Scaling.TheVariants.{Linear, Precip}
use Rattle.scale.specs.Legacy.{scale_of, legacy_level}
use Rattle.scale.specs.Physical.{capped_value, precip_value, value_of, declared_scale}
use Rattle.scale.specs.Scaling.{usable, floor_of, ceiling_of, linear_float, scaled, count, level_count, linear_declared}

-- leading 9: floor 1, and no ceiling
pub leading_9 : (floor_of 255 9 0 ≡ 1) × (ceiling_of 255 9 0 ≡ None)
leading_9 = (refl, refl)

-- ---- the float scheme's ranges: codes 2 and 255

abbrev first : Float → Float → Float
first scale offset = value_of (Linear (linear_float scale offset)) [] 2

abbrev last : Float → Float → Float
last scale offset = value_of (Linear (linear_float scale offset)) [] 255

-- two floats that compute to one
both : {x y : Float} (z : Float) → x ≡ z → y ≡ z → x ≡ y
both z p q = p ∙ sym q

-- N0X, scale 16, offset 128: -7.875 to 7.9375
pub n0x : (first (f32 16 1) (f32 128 1) ≡ neg (f32 7875 1000)) × (last (f32 16 1) (f32 128 1) ≡ f32 79375 10000)
unfolding value_of add sub mul div of_int neg f32
n0x = (refl, refl)

-- N0C, scale 300, offset -60.5: 0.20833.., 1.05167; the second is a step above the float nearest to 315.5 / 300
pub n0c : (first (f32 300 1) (neg (f32 605 10)) ≡ f32 625 3000) × (last (f32 300 1) (neg (f32 605 10)) ≡ of_bits binary32 0x3f869d04)
unfolding value_of add sub mul div of_int neg f32 of_bits
n0c = (both (fin false 13981013 (negsuc 25)) refl refl, both (fin false 2205505 (negsuc 20)) refl refl)

-- N0K, scale 20, offset 43: -2.05 to 10.6
pub n0k : (first (f32 20 1) (f32 43 1) ≡ neg (f32 205 100)) × (last (f32 20 1) (f32 43 1) ≡ f32 106 10)
unfolding value_of add sub mul div of_int neg f32
n0k = (both (fin true 8598323 (negsuc 21)) refl refl, both (fin false 5557453 (negsuc 18)) refl refl)

-- ---- floats at the edges

-- a level of value 0 with the sign's flag is minus zero
pub minus_zero : legacy_level 0x01 0 (f32 1 1) ≡ neg (f32 0 1)
unfolding mul of_int neg f32
minus_zero = refl

-- the least scale above 0 is taken; its step is infinite, and code 2 gives a NaN
pub subnormal : (usable (of_bits binary32 1) ≡ true) × ((linear_float (of_bits binary32 1) (f32 0 1)).value_increment ≡ inf false) × (first (of_bits binary32 1) (f32 0 1) ≡ nan)
unfolding value_of add sub mul div eq of_int f32 of_bits
subnormal = (refl, refl, refl)

-- a negative scale is taken, and its step refused
pub negative : linear_declared (linear_float (neg (f32 16 1)) (f32 128 1)) ≡ refused (kind 9 (float (neg (f32 1 16)) ∷ []))
unfolding div le neg f32
negative = refl

-- a factor that is a NaN: the step, the minimum and each value are NaN, and nothing is refused
pub factor_nan :
    declared_scale (Precip (scaled (f32 10 1) (f32 0 1) nan 1 None))
    ≡ accepted (Some (record { value_min = nan; value_increment = nan; n_levels = 65535; data_floor_code = 1 }))
unfolding declared_scale level_count count add mul div neg of_int f32
factor_nan = refl

pub factor_nan_value : precip_value (scaled (f32 10 1) (f32 0 1) nan 1 None) 5 ≡ nan
unfolding add mul div neg of_int f32
factor_nan_value = refl

-- ---- precipitation's codes

-- a ceiling under the floor: no code is valid, and the count is 0
pub no_level : level_count 5 (Some 3) ≡ 0
unfolding level_count count
no_level = refl

pub no_code : (m step : Float) (floor top code : ℕ) → top < floor → capped_value m step floor top code ≡ nan
no_code m step floor top code h = go (leb floor code) refl
  where
    go : (b : Bool) → leb floor code ≡ b → capped_value m step floor top code ≡ nan
    go true u = let k : top < code = omega (arith, leb-true floor code u) in rw (u, lt-leb code top k)
    go false u = rw u

-- without a ceiling the last code counts; floor 0 and ceiling 65,535: all codes
pub open_codes : level_count 1 None ≡ 65535
unfolding level_count count
open_codes = refl

pub all_codes : level_count 0 (Some 65535) ≡ 65536
unfolding level_count count
all_codes = refl

-- hundredth beats tenth, and tenth beats twentieth
pub flags : (scale_of 0x70 ≡ f32 1 100) × (scale_of 0x30 ≡ f32 1 10) × (scale_of 0x20 ≡ f32 1 20)
unfolding div f32
flags = (refl, refl, refl)
