-- Which bit patterns of f32 are a NaN's, and which floats are none. Assumes nothing.
use mathlib.Core.Path.{◌≡◌, refl, sym, ◌∙◌, subst}
use mathlib.Core.Bool.{Bool, true, false, not}
use Prim.Native.Nat.{ℕ, ◌%◌, ◌<◌, ◌≤◌}
use lib.Dec.{T}
use lib.Ieee.{Float, nan, inf, fin, binary32, of_bits, is_nan, nan_bits, ne, eq}
use lib.Ieee.Bits.{nan_bits_is, nan_bits_above}
use borrow.Author.Tests.{lt-ltb, le-ltb}

pub is_nan_lem : (x : Float) → is_nan x ≡ true → x ≡ nan
unfolding is_nan
is_nan_lem nan t = refl
is_nan_lem (inf s) t = cc
is_nan_lem (fin s m e) t = cc

-- below the sign's bit, a pattern above the infinity's is a NaN's, and any other is not
pub pattern_nan : (n : ℕ) → 0x7f80_0000 < n % 0x8000_0000 → of_bits binary32 n ≡ nan
pattern_nan n h = is_nan_lem _ (sym (nan_bits_is binary32 n) ∙ nan_bits_above binary32 n ∙ lt-ltb _ _ h)

pub pattern_number : (n : ℕ) → n % 0x8000_0000 ≤ 0x7f80_0000 → T (not (nan_bits binary32 n))
pattern_number n h = subst (λ (b : Bool). T (not b)) (sym (nan_bits_above binary32 n ∙ le-ltb _ _ h)) tt

-- what equals itself is no NaN
pub no_nan : (x : Float) → ne x x ≡ false → T (not (is_nan x))
unfolding ne eq is_nan
no_nan nan h = absurd (subst T h tt)
no_nan (inf s) h = tt
no_nan (fin s m e) h = tt
