-- A whole number below 65,536 as a float by its bits. Assumes nothing.
use mathlib.Core.Path.{◌≡◌, refl, sym, ap, ◌∙◌, subst}
use mathlib.Core.Bool.{Bool, true, false, cond}
use Prim.Native.Nat.{ℕ, ◌+◌, ◌-◌, ◌*◌, ◌/◌, ◌%◌, ◌^◌, ◌≤◌, ◌<◌}
use native.Mathlib.Nat.{lt_of_lt_of_le, le_of_lt, mul-one, mul_assoc, mul_comm, mul_right_comm, mul-pos, mul-le-mul_right, eq_of_mul-eq-mul_right}
use native.Mathlib.Omega.{arith}
use lib.IntN.{pos}
use lib.Dec.{T, leb, lit≤, lit<}
use lib.Pow.{pow_mono, shl_lt}
use borrow.Author.Tests.{le-ltb, lt-leb}
use lib.Ieee.{Float, nan, inf, fin, binary32, up, down, round, of_int, odd, sum, add, sub, neg, of_bits, of_fields}
use lib.Ieee.Fits.{down_pos, round-fits}
use lib.Ieee.Exact.{HasValue, odd_sign, round_exact}
use lib.Ieee.Back.{round_whole, whole_unique}
use Rattle.wire.specs.Float.{whole32, ◌⊖◌}
use Rattle.scale.proofs.Operations.{sub_scale}

-- a value whose fraction is a whole number has that number
whole_of : (x : Float) (num den n : ℕ) → 0 < den → num ≡ n * den → HasValue x false num den → HasValue x false n 1
whole_of nan num den n p h v = v
whole_of (inf t) num den n p h v = v
whole_of (fin t m e) num den n p h v = (
  v.0,
  eq_of_mul-eq-mul_right den p (m * up e * 1) (n * down e)
      (ap (λ (x : ℕ). x * den) (mul-one (m * up e)) ∙ v.1 ∙ ap (λ (x : ℕ). x * down e) h ∙ mul_right_comm n den (down e)),
)

-- a fraction that is a whole number is rounded to that number
pub near : (num den n : ℕ) → 0 < den → n < 65536 → num ≡ n * den → round binary32 false num den ≡ whole32 (pos n)
unfolding of_int
near num den n p small h =
    whole_unique binary32 (round binary32 false num den) (round binary32 false n 1) false n
    (round-fits binary32 false num den)
    (round-fits binary32 false n 1)
    (whole_of (round binary32 false num den) num den n p h
    (round_exact binary32 false num den n 149 p (lt_of_lt_of_le small (lit≤ tt))
    (lt_of_lt_of_le (shl_lt 16 149 small) (pow_mono {i = 165} {j = 277} (lit≤ tt)))
    (ap (λ (x : ℕ). x * 2 ^ 149) h ∙ mul_right_comm n den (2 ^ 149))))
    (round_whole binary32 false n (le_of_lt (lt_of_lt_of_le small (lit≤ tt))))

no_sign : ◌≡◌ {A = Bool} true false → ⊥
no_sign e = subst T e tt

-- a difference of whole numbers
minus_whole : (x y : Float) (a b : ℕ) → HasValue x false a 1 → HasValue y false b 1 → b ≤ a → a - b < 65536 → sub binary32 x y ≡ whole32 (pos (a - b))
unfolding sub add sum neg
minus_whole nan y a b h k l small = absurd h
minus_whole (inf t) y a b h k l small = absurd h
minus_whole (fin true m e) y a b h k l small = absurd (no_sign h.0)
minus_whole (fin false m e) nan a b h k l small = absurd k
minus_whole (fin false m e) (inf t) a b h k l small = absurd k
minus_whole (fin false m e) (fin true n g) a b h k l small = absurd (no_sign k.0)
minus_whole (fin false m e) (fin false n g) a b h k l small =
    let A = m * up e * down g in
    let B = n * up g * down e in
    let C = down e * down g in
    let p : A ≡ a * C = ap (λ (x : ℕ). x * down g) (sym (mul-one (m * up e)) ∙ h.1) ∙ mul_assoc a (down e) (down g) in
    let q : B ≡ b * C = ap (λ (x : ℕ). x * down e) (sym (mul-one (n * up g)) ∙ k.1) ∙ mul_assoc b (down g) (down e) ∙ ap (λ (x : ℕ). b * x) (mul_comm (down g) (down e)) in
    let o : B ≤ A = rw (p, q) (mul-le-mul_right C l) in
    ap (λ (t : Bool). cond t (round binary32 true (B - A) C) (round binary32 false (A - B) C)) (le-ltb A B o)
    ∙ near (A - B) C (a - b) (mul-pos (down_pos e) (down_pos g)) small (sym (mul-one (A - B)) ∙ sub_scale B A b a C 1 (mul-one B ∙ q) (mul-one A ∙ p))

-- 2^23 and n more, by its bits
bits_value : (n : ℕ) → n < 65536 → HasValue (of_bits binary32 (1258291200 + n)) false (8388608 + n) 1
unfolding of_bits of_fields
bits_value n h =
    let sign : leb 2147483648 (1258291200 + n) ≡ false = lt-leb _ _ (omega arith) in
    let field : (1258291200 + n) % 2147483648 / 8388608 ≡ 150 = omega arith in
    let digits : (1258291200 + n) % 8388608 ≡ n = omega arith in
    rw (sign, field, digits)
    (whole_of (odd 24 false (8388608 + n) 149 149) ((8388608 + n) * 2 ^ 149) (2 ^ 149) (8388608 + n) (lit< tt) refl (odd_sign 24 false (8388608 + n) 149 149))

pub whole_bits : (n : ℕ) → n < 65536 → of_bits binary32 (1258291200 + n) ⊖ of_bits binary32 1258291200 ≡ whole32 (pos n)
whole_bits n h =
    let e : 8388608 + n - 8388608 ≡ n = omega arith in
    minus_whole _ _ (8388608 + n) 8388608 (bits_value n h) (bits_value 0 (omega arith)) (omega arith) (omega arith) ∙ ap (λ (k : ℕ). whole32 (pos k)) e
