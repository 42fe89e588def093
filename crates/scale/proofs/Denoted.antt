-- The number that 32 bits denote by IEEE 754 is the logic's own of the value that is read from them. Assumes nothing.
use mathlib.Core.Path.{◌≡◌, refl, sym, ap, ◌∙◌, subst}
use mathlib.Core.Bool.{Bool, true, false, not, cond}
use Prim.Native.Nat.{ℕ, zero, suc, ◌+◌, ◌-◌, ◌*◌, ◌^◌, ◌<◌}
use native.Mathlib.Nat.{zero-mul, mul-one}
use lib.Dec.{T, eqb}
use lib.Pow.{pow_pos}
use lib.Ieee.{Float, nan, inf, fin, binary32, odd, of_fields, of_bits, to_bits, fits, is_nan}
use lib.Ieee.Fits.{down_pos}
use lib.Ieee.Exact.{HasValue, odd_sign}
use lib.Ieee.Bits.{of_bits-to_bits, to_bits-of_bits}
use Rattle.scale.specs.Tenths.{ratio, none, negative, exponent, digits, magnitude, denoted, number, own, Same}

no_number : Same none none
no_number = record { above = refl; under = refl; there = λ h. h; back = λ h. h }

-- a value that is known as a fraction
of_value : (v : Float) (s : Bool) (n d : ℕ) → 0 < d → HasValue v s n d → Same (ratio s n d) (own v)
of_value nan s n d p h = absurd h
of_value (inf t) s n d p h = absurd h
of_value (fin t m e) s n d p h = subst (λ (b : Bool). Same (ratio b n d) (own (fin t m e))) h.0 (go t)
  where
    go : (t : Bool) → Same (ratio t n d) (own (fin t m e))
    go true = record { above = zero-mul _ ∙ sym (zero-mul d); under = sym h.1; there = λ _. p; back = λ _. down_pos e }
    go false = record { above = sym h.1; under = zero-mul _ ∙ sym (zero-mul d); there = λ _. p; back = λ _. down_pos e }

-- sign, exponent and digits as the logic reads them
by_fields : (s : Bool) (x t : ℕ) → Same (cond (eqb x 255) none (ratio s (magnitude x t) (2 ^ 149))) (own (of_fields binary32 s x t))
unfolding of_fields
by_fields s zero t =
    subst (λ (n : ℕ). Same (ratio s n (2 ^ 149)) (own (odd 24 s t 0 149))) (mul-one t)
    (of_value (odd 24 s t 0 149) s (t * 2 ^ 0) (2 ^ 149) (pow_pos 149) (odd_sign 24 s t 0 149))
by_fields s (suc x) t = go (eqb (suc x) 255) (eqb t 0)
  where
    go : (a b : Bool) → Same (cond a none (ratio s ((2 ^ 23 + t) * 2 ^ x) (2 ^ 149))) (own (cond a (cond b (inf s) nan) (odd 24 s (2 ^ 23 + t) x 149)))
    go true true = no_number
    go true false = no_number
    go false b = of_value (odd 24 s (2 ^ 23 + t) x 149) s ((2 ^ 23 + t) * 2 ^ x) (2 ^ 149) (pow_pos 149) (odd_sign 24 s (2 ^ 23 + t) x 149)

pub read_is : (b : ℕ) → Same (denoted b) (own (of_bits binary32 b))
unfolding of_bits
read_is b = by_fields (negative b) (exponent b) (digits b)

-- of every value that an f32 holds
pub number_is : (v : Float) → T (fits binary32 v) → Same (number v) (own v)
number_is v h = subst (λ (x : Float). Same (number v) (own x)) (of_bits-to_bits binary32 v h) (read_is (to_bits binary32 v))

-- and of every pattern but a NaN's the value read from it has that pattern
pub number_of_bits : (b : ℕ) → b < 2 ^ 32 → T (not (is_nan (of_bits binary32 b))) → number (of_bits binary32 b) ≡ denoted b
number_of_bits b h n = ap denoted (to_bits-of_bits binary32 b h n)

-- computed: 1, -2.5, 0.1 as an f32 has it, the least f32, the largest and the infinity after it
one : denoted 0x3f80_0000 ≡ ratio false (2 ^ 149) (2 ^ 149)
one = refl

minus_two_and_a_half : denoted 0xc020_0000 ≡ ratio true (5 * 2 ^ 148) (2 ^ 149)
minus_two_and_a_half = refl

a_tenth : denoted 0x3dcc_cccd ≡ ratio false (13421773 * 2 ^ 122) (2 ^ 149)
a_tenth = refl

least : denoted 1 ≡ ratio false 1 (2 ^ 149)
least = refl

largest : denoted 0x7f7f_ffff ≡ ratio false ((2 ^ 24 - 1) * 2 ^ 253) (2 ^ 149)
largest = refl

infinity : denoted 0x7f80_0000 ≡ none
infinity = refl
