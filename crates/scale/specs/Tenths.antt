-- How close the halfword scheme's values are to the exact tenths, over whole numbers (M-108).
use Rattle.std.specs.Prelude.{ℕ, zero, suc, ◌+◌, ◌*◌, ◌/◌, ◌%◌, ◌^◌, ◌≤◌, ◌<◌, List, Bool, true, false, cond, ◌≡◌, ℤ, pos, negsuc, leb, eqb, Float}
use Rattle.std.specs.Float.{nan, inf, fin, binary32}
use Rattle.std.specs.Float.Ieee.{up, down, to_bits}
use Rattle.wire.specs.Result.{accepted}
use Rattle.head.specs.Pdb.{hw_i16, hw_u16}

-- ---- the number of an f32

-- A number as (above - under) / whole, where `above` or `under` is 0. A NaN or an infinity has whole 0.
pub record Fraction : Type 0 where
  pub above : ℕ
  pub under : ℕ
  pub whole : ℕ

-- n / d, or -n / d
abbrev pub ratio : Bool → ℕ → ℕ → Fraction
ratio false n d = record { above = n; under = 0; whole = d }
ratio true n d = record { above = 0; under = n; whole = d }

abbrev pub none : Fraction
none = record { above = 0; under = 0; whole = 0 }

-- 32 bits b: bit 31 is the sign, bits 30 to 23 are the exponent e, bits 22 to 0 the digits t
abbrev pub negative : ℕ → Bool
negative b = leb (2 ^ 31) b

abbrev pub exponent : ℕ → ℕ
exponent b = b % 2 ^ 31 / 2 ^ 23

abbrev pub digits : ℕ → ℕ
digits b = b % 2 ^ 23

-- IEEE 754: (1 + t / 2^23) × 2^(e - 127), and for e = 0 (t / 2^23) × 2^-126. Both are so many times 2^-149:
abbrev pub magnitude : ℕ → ℕ → ℕ
magnitude zero t = t
magnitude (suc x) t = (2 ^ 23 + t) * 2 ^ x

-- the number that 32 bits denote; there is none for e = 255
abbrev pub denoted : ℕ → Fraction
denoted b = cond (eqb (exponent b) 255) none (ratio (negative b) (magnitude (exponent b) (digits b)) (2 ^ 149))

-- the number that the bits of an f32 denote
abbrev pub number : Float → Fraction
number v = denoted (to_bits binary32 v)

-- The logic's own: `fin s n e` is n × 2^e, negative where s is true.
abbrev pub own : Float → Fraction
own (fin s n e) = ratio s (n * up e) (down e)
own (inf s) = none
own nan = none

-- the same number, or none on both sides
pub record Same (x y : Fraction) : Type 0 where
  pub above : x.above * y.whole ≡ y.above * x.whole
  pub under : x.under * y.whole ≡ y.under * x.whole
  pub there : 0 < y.whole → 0 < x.whole
  pub back : 0 < x.whole → 0 < y.whole

-- ---- the bound and the order

-- an integer is plus - minus; one of the two is 0
abbrev pub plus : ℤ → ℕ
plus (pos n) = n
plus (negsuc n) = 0

abbrev pub minus : ℤ → ℕ
minus (pos n) = 0
minus (negsuc n) = suc n

-- x is a number within 1 / 8 of (m + k × i) / 10. Both sides are multiplied by 80 and by x's denominator, and what is subtracted stands
-- on the other side.
pub record Near (m : ℤ) (i k : ℕ) (x : Fraction) : Type 0 where
  pub finite : 0 < x.whole
  pub not_over : 80 * x.above + 8 * minus m * x.whole ≤ 8 * (plus m + k * i) * x.whole + 80 * x.under + 10 * x.whole
  pub not_below : 8 * (plus m + k * i) * x.whole + 80 * x.under ≤ 80 * x.above + 8 * minus m * x.whole + 10 * x.whole

-- x is below y: x.above / x.whole - x.under / x.whole < .., multiplied by both denominators
abbrev pub Less : Fraction → Fraction → Type 0
Less x y = x.above * y.whole + y.under * x.whole < y.above * x.whole + x.under * y.whole

-- ---- the halfwords

-- The scale fields of the halfword scheme are inside the file: halfword 22 is m, and 23 is i, which is positive. 24 is the level count,
-- which no value depends on.
pub record Halfwords (file : List ℕ) (block : ℕ) (m : ℤ) (i : ℕ) : Type 0 where
  pub minimum : hw_i16 file block 22 ≡ accepted m
  pub step : hw_i16 file block 23 ≡ accepted (pos i)
  pub positive : 0 < i
  pub count : ℕ
  pub levels : hw_u16 file block 24 ≡ accepted count
