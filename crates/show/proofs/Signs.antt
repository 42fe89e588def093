-- Signed numbers that a test showed to be negative or not. Assumes nothing.
use Rattle.std.proofs.Common.{◌≡◌, ℕ, suc, ◌+◌, ◌-◌, ◌<◌, true, false, T, ℤ, pos, negsuc, nat_abs, refl, arith, to_z-of_z, w32, w64, Fits, SFits, to_z, of_z, ltb-true}
use lib.Signed.{non_neg, lt_z}
use mir.Facts.{to_z_pos}
use Rattle.xdr.specs.Xdr.{at_least0}

-- y is the machine's reading of z
pub not_negative : {y z : ℤ} → y ≡ z → SFits w64 z → lt_z y (pos 0) ≡ false → T (non_neg y) × Fits w64 (nat_abs y)
not_negative {y} {z} known f t = rw known (fits z f (rw known at t))
  where
    fits : (z : ℤ) → SFits w64 z → lt_z z (pos 0) ≡ false → T (non_neg z) × Fits w64 (nat_abs z)
    fits (pos n) f t = (tt, record { fits = omega (arith, f.sfits) })
    fits (negsuc n) f t = let z : ◌≡◌ {A = ℕ} 0 1 = cc in absurd (omega arith)

-- the distance from 0: of a negative number by its complement, of any other as it is
pub below_0 : (z : ℤ) → SFits w32 z → lt_z (to_z w32 (of_z w32 z)) (pos 0) ≡ true → at_least0 (to_z w32 (4294967295 - of_z w32 z)) + 1 ≡ nat_abs z
below_0 (pos n) f t = absurd (omega (arith, ltb-true n 0 (rw (to_z-of_z {w = w32} {z = pos n} f) at t)))
below_0 (negsuc n) f t =
    let h : n < 2147483648 = f.sfits in
    let e : 4294967295 - (4294967296 - suc n) ≡ n = omega arith in
    rw (e, to_z_pos w32 h) (omega arith)

pub from_0 : (z : ℤ) → SFits w32 z → lt_z (to_z w32 (of_z w32 z)) (pos 0) ≡ false → at_least0 (to_z w32 (of_z w32 z)) ≡ nat_abs z
from_0 (pos n) f t = rw (to_z-of_z {w = w32} {z = pos n} f) refl
from_0 (negsuc n) f t = let z : ◌≡◌ {A = ℕ} 0 1 = cc (rw (to_z-of_z {w = w32} {z = negsuc n} f) at t) in absurd (omega arith)
