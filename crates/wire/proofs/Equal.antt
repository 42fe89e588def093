-- The test of equality says what the logic's own equality is, and two patterns are equal exactly if the floats are. Assumes nothing.
use Prim.Native.Nat.{ℕ}
use native.Mathlib.Omega.{arith}
use mathlib.Core.Bool.{Bool, true, false, ◌&&◌}
use mathlib.Core.Path.{◌≡◌, refl, sym, ap, ◌∙◌}
use lib.Dec.{T, eqb}
use lib.IntN.{ℤ, pos, negsuc}
use lib.Ieee.{Float, nan, inf, fin, Format, fits, is_nan, to_bits, of_bits}
use lib.Ieee.Bits.{of_bits-to_bits}
use borrow.Author.Tests.{eq-eqb, eqb-true, eqb-false}
use Rattle.wire.proofs.Patterns.{is_nan_lem}
use Rattle.wire.specs.SameFloat.{same_int, same_sign, same_float}

int_same : (z : ℤ) → same_int z z ≡ true
int_same (pos n) = eq-eqb n n refl
int_same (negsuc n) = eq-eqb n n refl

sign_same : (s : Bool) → same_sign s s ≡ true
sign_same true = refl
sign_same false = refl

pub float_same : (x : Float) → same_float x x ≡ true
unfolding same_float
float_same nan = refl
float_same (inf s) = sign_same s
float_same (fin s m e) = rw (sign_same s, eq-eqb m m refl, int_same e) refl

int_is : (y z : ℤ) → same_int y z ≡ true → y ≡ z
int_is (pos m) (pos n) h = ap pos (eqb-true m n h)
int_is (pos m) (negsuc n) h = let z : ◌≡◌ {A = ℕ} 0 1 = cc in absurd (omega arith)
int_is (negsuc m) (pos n) h = let z : ◌≡◌ {A = ℕ} 0 1 = cc in absurd (omega arith)
int_is (negsuc m) (negsuc n) h = ap negsuc (eqb-true m n h)

sign_is : (s t : Bool) → same_sign s t ≡ true → s ≡ t
sign_is true t h = sym h
sign_is false true h = let z : ◌≡◌ {A = ℕ} 0 1 = cc in absurd (omega arith)
sign_is false false h = refl

both : (a b : Bool) → a && b ≡ true → (a ≡ true) × (b ≡ true)
both true b h = (refl, h)
both false b h = let z : ◌≡◌ {A = ℕ} 0 1 = cc in absurd (omega arith)

pub float_is : (x y : Float) → same_float x y ≡ true → x ≡ y
unfolding same_float
float_is nan nan h = refl
float_is nan (inf t) h = let z : ◌≡◌ {A = ℕ} 0 1 = cc in absurd (omega arith)
float_is nan (fin t n f) h = let z : ◌≡◌ {A = ℕ} 0 1 = cc in absurd (omega arith)
float_is (inf s) nan h = let z : ◌≡◌ {A = ℕ} 0 1 = cc in absurd (omega arith)
float_is (inf s) (inf t) h = ap inf (sign_is s t h)
float_is (inf s) (fin t n f) h = let z : ◌≡◌ {A = ℕ} 0 1 = cc in absurd (omega arith)
float_is (fin s m e) nan h = let z : ◌≡◌ {A = ℕ} 0 1 = cc in absurd (omega arith)
float_is (fin s m e) (inf t) h = let z : ◌≡◌ {A = ℕ} 0 1 = cc in absurd (omega arith)
float_is (fin s m e) (fin t n f) h =
    let k = both (same_sign s t) _ h in
    let l = both (eqb m n) _ k.1 in
    let a : s ≡ t = sign_is s t k.0 in
    let b : m ≡ n = eqb-true m n l.0 in
    let c : e ≡ f = int_is e f l.1 in
    rw (a, b, c) refl

float_other : (x y : Float) → (x ≡ y → ⊥) → same_float x y ≡ false
float_other x y h = by (same_float x y) refl
  where
    by : (b : Bool) → same_float x y ≡ b → b ≡ false
    by true e = absurd (h (float_is x y e))
    by false e = refl

-- ---- by patterns

module _ (f : Format) (a b : Float) (fa : T (fits f a)) (fb : T (fits f b)) where
  pub by_bits : eqb (to_bits f a) (to_bits f b) ≡ same_float a b
  by_bits = by (eqb (to_bits f a) (to_bits f b)) refl
    where
      by : (t : Bool) → eqb (to_bits f a) (to_bits f b) ≡ t → t ≡ same_float a b
      by true e =
          let d : a ≡ b = sym (of_bits-to_bits f a fa) ∙ ap (of_bits f) (eqb-true _ _ e) ∙ of_bits-to_bits f b fb in
          rw (← d) (sym (float_same a))
      by false e = sym (float_other a b (λ d. eqb-false _ _ e (ap (to_bits f) d)))

-- ---- a NaN

nan_left : (x : Float) → is_nan x ≡ same_float nan x
unfolding is_nan same_float
nan_left nan = refl
nan_left (inf s) = refl
nan_left (fin s m e) = refl

nan_right : (x : Float) → is_nan x ≡ same_float x nan
unfolding is_nan same_float
nan_right nan = refl
nan_right (inf s) = refl
nan_right (fin s m e) = refl

pub nan_first : (a b : Float) → is_nan a ≡ true → is_nan b ≡ same_float a b
nan_first a b h = let e : a ≡ nan = is_nan_lem a h in rw e (nan_left b)

pub nan_second : (a b : Float) → is_nan a ≡ false → is_nan b ≡ true → false ≡ same_float a b
nan_second a b h k = let e : b ≡ nan = is_nan_lem b k in rw e (sym h ∙ nan_right a)
