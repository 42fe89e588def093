-- Names for float constants and operations. Each operation rounds once. The logic has one NaN, so two float results are equal
-- if their bits are or both are NaN.
use Rattle.std.specs.Prelude.{ℕ, List, false, ℤ, Float}
use Rattle.std.specs.Float.{binary32, binary64}
use Rattle.std.specs.Float.Ieee.{round, of_int, of_bits, add, sub, mul, div}
use Rattle.wire.specs.Bytes.{u32_at}

-- the float nearest to n / d, as the literal of that number has it
unfoldable pub f32 : ℕ → ℕ → Float
unfolding round
f32 n d = round binary32 false n d

unfoldable pub f64 : ℕ → ℕ → Float
unfolding round
f64 n d = round binary64 false n d

-- a whole number as a float
abbrev pub whole32 : ℤ → Float
whole32 = of_int binary32

abbrev pub whole64 : ℤ → Float
whole64 = of_int binary64

-- the operations of f32
infixl 50 ◌⊕◌ ◌⊖◌
infixl 60 ◌⊗◌ ◌⊘◌
abbrev pub ◌⊕◌ : Float → Float → Float
◌⊕◌ = add binary32

abbrev pub ◌⊖◌ : Float → Float → Float
◌⊖◌ = sub binary32

abbrev pub ◌⊗◌ : Float → Float → Float
◌⊗◌ = mul binary32

abbrev pub ◌⊘◌ : Float → Float → Float
◌⊘◌ = div binary32

-- the f32 of four big-endian bytes from place i on
unfoldable pub f32_at : List ℕ → ℕ → Float
f32_at s i = of_bits binary32 (u32_at s i)
