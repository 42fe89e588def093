-- What is left of a number of degrees after whole turns (`rem .. 360`), by the digits and the exponent of its bits. Assumes nothing.
use Prim.Native.Nat.{ℕ, zero, suc, ◌+◌, ◌-◌, ◌*◌, ◌/◌, ◌%◌, ◌^◌, ◌<◌, ◌≤◌}
use native.Mathlib.Omega.{arith}
use Rattle.std.proofs.Math.Nat.{mod-lt, mod-eq_of_lt, mul-lt-mul_of_pos_right, mul-pos}
use Rattle.std.proofs.lemmas.Nat.{mod-mul-add, div-add-mod', pow-add, pow_pos, mul-mod_first}
use mathlib.Core.Path.{◌≡◌, refl, sym, ap, ◌∙◌, subst}
use mathlib.Core.Bool.{Bool, true, false, cond}
use lib.Dec.{T, eqb, leb}
use lib.IntN.{ℤ, pos, negsuc}
use lib.Ieee.{Float, nan, inf, fin, binary64, up, down, unlike, round, units, odd, neg, div, rem, of_int, of_bits, of_fields, size, fits, to_bits, is_nan}
use lib.Ieee.Exact.{HasValue, odd_sign}
use lib.Ieee.Scale.{round_same}
use lib.Ieee.Back.{round_whole}
use borrow.Author.Tests.{ne_eqb}
use lib.Ieee.Bits.{of_bits-to_bits}
use Rattle.wire.proofs.Patterns.{is_nan_lem}
use Rattle.wire.specs.Float.{f64}

-- ---- whole numbers

pub scaled_mod : (x y z : ℕ) → 0 < y → 0 < z → (x * z) % (y * z) ≡ (x % y) * z
scaled_mod x y z Y Z =
    let e : x / y * y + x % y ≡ x = div-add-mod' x y in
    let w : x / y * (y * z) + x % y * z ≡ x * z = omega (arith, ap (λ (v : ℕ). v * z) e) in
    let h : x % y * z < y * z = mul-lt-mul_of_pos_right (mod-lt x Y) Z in
    ap (λ (v : ℕ). v % (y * z)) (sym w) ∙ mod-mul-add (x / y) (y * z) (x % y * z) h

-- equal fractions A / D and a / c leave equal fractions
cross : (A D a c : ℕ) → 0 < D → 0 < c → A * c ≡ a * D → (A % (360 * D)) * c ≡ (a % (360 * c)) * D
cross A D a c P C e =
    let same : 360 * D * c ≡ 360 * c * D = omega arith in
    let left : 0 < 360 * D = omega arith in
    let right : 0 < 360 * c = omega arith in
    sym (scaled_mod A (360 * D) c left C) ∙ ap (λ (v : ℕ). v % (360 * D * c)) e ∙ ap (λ (v : ℕ). (a * D) % v) same ∙ scaled_mod a (360 * c) D right P

down_pos : (e : ℤ) → 0 < down e
down_pos (pos k) = omega arith
down_pos (negsuc k) = pow_pos (suc k)

-- ---- floats by the fractions that they are

is_360 : f64 360 1 ≡ fin false 45 (pos 3)
unfolding f64
is_360 = refl

is_1 : f64 1 1 ≡ fin false 1 (pos 0)
unfolding f64
is_1 = refl

-- a / c without its whole turns
pub rest_is : (x : Float) (s : Bool) (a c : ℕ) → 0 < c → HasValue x s a c → rem binary64 x (f64 360 1) ≡ round binary64 s (a % (360 * c)) c
unfolding rem
rest_is nan s a c C h = absurd h
rest_is (inf u) s a c C h = absurd h
rest_is (fin t m e) s a c C (sign, value) =
    let D = down_pos e in
    let D' : 0 < down e * 1 = omega arith in
    let v : m * up e * 1 * c ≡ a * down e = omega (arith, value) in
    let both : (m * up e * 1 % (360 * down e)) * c ≡ (a % (360 * c)) * (down e * 1) = omega (arith, cross (m * up e * 1) (down e) a c D C v) in
    ap (rem binary64 (fin t m e)) is_360 ∙ round_same binary64 t _ _ _ _ D' C both ∙ ap (λ (u : Bool). round binary64 u (a % (360 * c)) c) sign

unlike_false : (t : Bool) → unlike t false ≡ t
unlike_false true = refl
unlike_false false = refl

-- a float over 1 is the float of its fraction
pub over_one : (x : Float) (s : Bool) (a c : ℕ) → 0 < c → HasValue x s a c → div binary64 x (f64 1 1) ≡ round binary64 s a c
unfolding div
over_one nan s a c C h = absurd h
over_one (inf u) s a c C h = absurd h
over_one (fin t m e) s a c C (sign, value) =
    let D = down_pos e in
    let D' : 0 < 1 * down e = omega arith in
    let v : (m * up e * 1) * c ≡ a * (1 * down e) = omega (arith, value) in
    ap (div binary64 (fin t m e)) is_1 ∙ round_same binary64 (unlike t false) _ _ _ _ D' C v ∙ ap (λ (u : Bool). round binary64 u a c) (unlike_false t ∙ sign)

-- a quotient of whole numbers
quotient : (x y : Float) (r u : ℕ) → 0 < u → HasValue x false r 1 → HasValue y false u 1 → div binary64 x y ≡ round binary64 false r u
unfolding div
quotient nan y r u U h k = absurd h
quotient (inf s) y r u U h k = absurd h
quotient (fin t m e) nan r u U h k = absurd k
quotient (fin t m e) (inf s) r u U h k = absurd k
quotient (fin true m e) (fin s n d) r u U h k = absurd (let no : true ≡ false = h.0 in cc)
quotient (fin false m e) (fin true n d) r u U h k = absurd (let no : true ≡ false = k.0 in cc)
quotient (fin false m e) (fin false zero d) r u U h k =
    let P : 0 < u * down d = mul-pos U (down_pos d) in
    let z : 0 ≡ u * down d = sym (omega arith) ∙ k.1 in
    absurd (omega arith)
quotient (fin false m e) (fin false (suc n) d) r u U h k =
    let top : m * up e ≡ r * down e = omega (arith, h.1) in
    let low : suc n * up d ≡ u * down d = omega (arith, k.1) in
    let P : 0 < u * down d * down e = mul-pos (mul-pos U (down_pos d)) (down_pos e) in
    let D : 0 < suc n * up d * down e = subst (λ (z : ℕ). 0 < z * down e) (sym low) P in
    let same : m * up e * down d * u ≡ r * (suc n * up d * down e) =
    ap (λ (z : ℕ). z * down d * u) top ∙ omega arith ∙ ap (λ (z : ℕ). r * (z * down e)) (sym low) in
    rw (ne_eqb (suc n) 0 (omega arith)) (round_same binary64 false _ _ _ _ D U same)

pub divided : (r u : ℕ) → r ≤ 2 ^ 53 → u ≤ 2 ^ 53 → 0 < u → div binary64 (of_int binary64 (pos r)) (of_int binary64 (pos u)) ≡ round binary64 false r u
unfolding of_int
divided r u R U P = quotient _ _ r u P (round_whole binary64 false r R) (round_whole binary64 false u U)

-- the sign changes nothing else
turned : (b : Bool) (d q k l : ℕ) → neg (cond b (odd d false q k l) (inf false)) ≡ cond b (odd d true q k l) (inf true)
unfolding neg odd
turned false d q k l = refl
turned true d zero k l = refl
turned true d (suc q) k l = refl

pub with_sign : (s : Bool) (a c : ℕ) → cond s (neg (round binary64 false a c)) (round binary64 false a c) ≡ round binary64 s a c
unfolding round units
with_sign false a c = refl
with_sign true a c = turned _ 54 _ (size (a * 2 ^ 1074 / c) - 53) 1074

-- ---- by bits

-- a finite float of normal size: its digits over 2 ^ 1074, shifted by one less than the exponent's field
pub value_of : (b x : ℕ) → b % 2 ^ 63 / 2 ^ 52 ≡ suc x → x < 2046 → HasValue (of_bits binary64 b) (leb (2 ^ 63) b) ((2 ^ 52 + b % 2 ^ 52) * 2 ^ x) (2 ^ 1074)
unfolding of_bits of_fields
value_of b x field small =
    let other : eqb (suc x) 2047 ≡ false = ne_eqb (suc x) 2047 (omega arith) in
    rw (field, other) (odd_sign 53 (leb (2 ^ 63) b) (2 ^ 52 + b % 2 ^ 52) x 1074)

-- one below that size
pub value_of_0 : (b : ℕ) → b % 2 ^ 63 / 2 ^ 52 ≡ 0 → HasValue (of_bits binary64 b) (leb (2 ^ 63) b) (b % 2 ^ 52 * 2 ^ 0) (2 ^ 1074)
unfolding of_bits of_fields
value_of_0 b field = rw field (odd_sign 53 (leb (2 ^ 63) b) (b % 2 ^ 52) 0 1074)

-- an infinity or a NaN leaves a NaN
pub none_left : (b : ℕ) (y : Float) → b % 2 ^ 63 / 2 ^ 52 ≡ 2047 → rem binary64 (of_bits binary64 b) y ≡ nan
unfolding of_bits of_fields rem
none_left b y field = rw field (by (eqb (b % 2 ^ 52) 0))
  where
    by : (t : Bool) → rem binary64 (cond t (inf (leb (2 ^ 63) b)) nan) y ≡ nan
    by true = refl
    by false = refl

-- ---- the three sizes. The float is q * P / L; P and L are powers of two

grows : (q g u v : ℕ) → q < u → 0 < g → v ≡ u * g → q < 360 * v
grows q zero u v h G e = absurd (omega (arith, G))
grows q (suc g) u v h G e = omega (arith, h, e)

all_left : (q P V L : ℕ) → 0 < P → q < 360 * V → P * V ≡ L → (q * P) % (360 * L) ≡ q * P
all_left q P V L p h e =
    let same : 360 * V * P ≡ 360 * L = omega (arith, e) in
    mod-eq_of_lt (subst (λ (n : ℕ). q * P < n) same (mul-lt-mul_of_pos_right h p))

by_places : (q P J L : ℕ) → 0 < P → 0 < J → P * J ≡ L → (q * P) % (360 * L) * J ≡ q % (360 * J) * L
by_places q P J L p j e =
    let turn : 0 < 360 * J = omega (arith, j) in
    let same : 360 * L ≡ 360 * J * P = omega (arith, e) in
    let order : q % (360 * J) * P * J ≡ q % (360 * J) * (P * J) = omega arith in
    ap (λ (n : ℕ). (q * P) % n * J) same ∙ ap (λ (n : ℕ). n * J) (scaled_mod q (360 * J) P turn p) ∙ order ∙ ap (λ (n : ℕ). q % (360 * J) * n) e

by_shift : (q E L : ℕ) → 0 < L → (q * (L * E)) % (360 * L) * 1 ≡ (q * E) % 360 * L
by_shift q E L l =
    let turn : 0 < 360 = omega arith in
    let order : q * (L * E) ≡ q * E * L = omega arith in
    omega (arith, ap (λ (n : ℕ). n % (360 * L)) order ∙ scaled_mod (q * E) 360 L turn l)

module _ (x : Float) (s : Bool) (q k : ℕ) (value : HasValue x s (q * 2 ^ k) (2 ^ 1074)) (small : q < 2 ^ 53) where
  rest : rem binary64 x (f64 360 1) ≡ round binary64 s ((q * 2 ^ k) % (360 * 2 ^ 1074)) (2 ^ 1074)
  rest = rest_is x s (q * 2 ^ k) (2 ^ 1074) (pow_pos 1074) value

  -- below a turn: all of it is left
  pub below : k < 1022 → div binary64 x (f64 1 1) ≡ rem binary64 x (f64 360 1)
  below h =
      let here : k + (1074 - k) ≡ 1074 = omega arith in
      let more : 1074 - k ≡ 53 + (1021 - k) = omega arith in
      let e : 2 ^ k * 2 ^ (1074 - k) ≡ 2 ^ 1074 = sym (pow-add 2 k (1074 - k)) ∙ ap (λ (n : ℕ). 2 ^ n) here in
      let f : 2 ^ (1074 - k) ≡ 2 ^ 53 * 2 ^ (1021 - k) = ap (λ (n : ℕ). 2 ^ n) more ∙ pow-add 2 53 (1021 - k) in
      let w : q < 360 * 2 ^ (1074 - k) = grows q (2 ^ (1021 - k)) (2 ^ 53) (2 ^ (1074 - k)) small (pow_pos (1021 - k)) f in
      over_one x s (q * 2 ^ k) (2 ^ 1074) (pow_pos 1074) value
      ∙ ap (λ (n : ℕ). round binary64 s n (2 ^ 1074)) (sym (all_left q (2 ^ k) (2 ^ (1074 - k)) (2 ^ 1074) (pow_pos k) w e))
      ∙ sym rest

  -- with places after the point: by the digits and the turn in units of the last place
  pub fractional : (j : ℕ) → k + j ≡ 1074 → round binary64 s (q % (360 * 2 ^ j)) (2 ^ j) ≡ rem binary64 x (f64 360 1)
  fractional j h =
      let e : 2 ^ k * 2 ^ j ≡ 2 ^ 1074 = sym (pow-add 2 k j) ∙ ap (λ (n : ℕ). 2 ^ n) h in
      sym (rest ∙ round_same binary64 s _ _ _ _ (pow_pos 1074) (pow_pos j) (by_places q (2 ^ k) (2 ^ j) (2 ^ 1074) (pow_pos k) (pow_pos j) e))

  -- a whole number
  pub whole : (e : ℕ) → k ≡ 1074 + e → round binary64 s ((q * 2 ^ e) % 360) 1 ≡ rem binary64 x (f64 360 1)
  whole e h =
      let p : 2 ^ k ≡ 2 ^ 1074 * 2 ^ e = ap (λ (n : ℕ). 2 ^ n) h ∙ pow-add 2 1074 e in
      let one : 0 < 1 = omega arith in
      let same : (q * 2 ^ k) % (360 * 2 ^ 1074) * 1 ≡ (q * 2 ^ e) % 360 * 2 ^ 1074 = ap (λ (n : ℕ). (q * n) % (360 * 2 ^ 1074) * 1) p ∙ by_shift q (2 ^ e) (2 ^ 1074) (pow_pos 1074) in
      sym (rest ∙ round_same binary64 s _ _ _ _ (pow_pos 1074) one same)

-- ---- what the code has

-- a turn of the loop that doubles
pub twice : (n k : ℕ) → n * 2 ^ k % 360 * 2 % 360 ≡ n * 2 ^ (k + 1) % 360
twice n k =
    let e : 2 ^ (k + 1) ≡ 2 ^ k * 2 = pow-add 2 k 1 in
    let order : n * 2 ^ k * 2 ≡ n * (2 ^ k * 2) = omega arith in
    mul-mod_first (n * 2 ^ k) 2 360 ∙ ap (λ (m : ℕ). m % 360) order ∙ ap (λ (m : ℕ). (n * m) % 360) (sym e)

pub whole_float : (q e r : ℕ) → r ≡ q % 360 * 2 ^ e % 360 → of_int binary64 (pos r) ≡ round binary64 false (q * 2 ^ e % 360) 1
unfolding of_int
whole_float q e r h = ap (λ (n : ℕ). round binary64 false n 1) (h ∙ mul-mod_first q (2 ^ e) 360)

pub nan_stays : (x y : Float) → is_nan x ≡ true → x ≡ rem binary64 x y
unfolding rem
nan_stays x y h =
    let e : x ≡ nan = is_nan_lem x h in
    rw e refl

module _ (x : Float) (fit : T (fits binary64 x)) where
  abbrev minus_sign : Bool
  minus_sign = leb (2 ^ 63) (to_bits binary64 x)

  abbrev low_digits : ℕ
  low_digits = to_bits binary64 x % 2 ^ 52

  abbrev field : ℕ
  field = to_bits binary64 x % 2 ^ 63 / 2 ^ 52

  value_here : (n : ℕ) → field ≡ suc n → n < 2046 → HasValue x minus_sign ((2 ^ 52 + low_digits) * 2 ^ n) (2 ^ 1074)
  value_here n e h = subst (λ (z : Float). HasValue z minus_sign ((2 ^ 52 + low_digits) * 2 ^ n) (2 ^ 1074)) (of_bits-to_bits binary64 x fit) (value_of (to_bits binary64 x) n e h)

  few : low_digits < 2 ^ 52
  few = mod-lt (to_bits binary64 x) (pow_pos 52)

  digits_few : 2 ^ 52 + low_digits < 2 ^ 53
  digits_few = let h = few in omega arith

  pub infinite : (y : Float) → field ≡ 2047 → nan ≡ rem binary64 x y
  infinite y e = sym (subst (λ (z : Float). rem binary64 z y ≡ nan) (of_bits-to_bits binary64 x fit) (none_left (to_bits binary64 x) y e))

  pub small : field < 1023 → div binary64 x (f64 1 1) ≡ rem binary64 x (f64 360 1)
  small h = by field refl h
    where
      by : (n : ℕ) → field ≡ n → n < 1023 → div binary64 x (f64 1 1) ≡ rem binary64 x (f64 360 1)
      by zero e h =
          let v : HasValue x minus_sign (low_digits * 2 ^ 0) (2 ^ 1074) = subst (λ (z : Float). HasValue z minus_sign (low_digits * 2 ^ 0) (2 ^ 1074)) (of_bits-to_bits binary64 x fit) (value_of_0 (to_bits binary64 x) e) in
          let q : low_digits < 2 ^ 53 = let h = few in omega arith in
          below x minus_sign low_digits 0 v q (omega arith)
      by (suc n) e h = below x minus_sign (2 ^ 52 + low_digits) n (value_here n e (omega arith)) digits_few (omega arith)

  signed_rest : (a c : ℕ) (z r : Float) → z ≡ round binary64 false a c → r ≡ cond minus_sign (neg z) z → r ≡ round binary64 minus_sign a c
  signed_rest a c z r e h = h ∙ ap (λ (v : Float). cond minus_sign (neg v) v) e ∙ with_sign minus_sign a c

  pub middle : 1023 ≤ field → field < 1075 → {z r : Float} → z ≡ round binary64 false ((2 ^ 52 + low_digits) % (360 * 2 ^ (1075 - field))) (2 ^ (1075 - field))
      → r ≡ cond minus_sign (neg z) z → r ≡ rem binary64 x (f64 360 1)
  middle from to {z} {r} e h =
      let n : field ≡ suc (field - 1) = omega arith in
      signed_rest _ _ z r e h ∙ fractional x minus_sign (2 ^ 52 + low_digits) (field - 1) (value_here (field - 1) n (omega arith)) digits_few (1075 - field) (omega arith)

  pub large : 1075 ≤ field → (field ≡ 2047 → ⊥) → {z r : Float} → z ≡ round binary64 false ((2 ^ 52 + low_digits) * 2 ^ (field - 1075) % 360) 1
      → r ≡ cond minus_sign (neg z) z → r ≡ rem binary64 x (f64 360 1)
  large from other {z} {r} e h =
      let b = mod-lt (to_bits binary64 x) (pow_pos 63) in
      let to : field < 2047 = omega (arith, other) in
      let n : field ≡ suc (field - 1) = omega arith in
      signed_rest _ _ z r e h ∙ whole x minus_sign (2 ^ 52 + low_digits) (field - 1) (value_here (field - 1) n (omega arith)) digits_few (field - 1075) (omega arith)

-- ---- a unit in the last place

le_times : (u g : ℕ) → 0 < g → u ≤ u * g
le_times u zero h = absurd (omega (arith, h))
le_times u (suc g) h = omega arith

pub unit_small : (p : ℕ) → p ≤ 52 → 2 ^ p ≤ 2 ^ 52
unit_small p h =
    let here : p + (52 - p) ≡ 52 = omega arith in
    let e : 2 ^ 52 ≡ 2 ^ p * 2 ^ (52 - p) = ap (λ (n : ℕ). 2 ^ n) (sym here) ∙ pow-add 2 p (52 - p) in
    subst (λ (n : ℕ). 2 ^ p ≤ n) (sym e) (le_times (2 ^ p) (2 ^ (52 - p)) (pow_pos (52 - p)))

pub unit_is : (p : ℕ) → p ≤ 52 → 1 * 2 ^ p % 2 ^ 64 ≡ 2 ^ p
unit_is p h =
    let s = unit_small p h in
    let lt : 2 ^ p < 2 ^ 64 = omega arith in
    let one : 1 * 2 ^ p ≡ 2 ^ p = omega arith in
    ap (λ (n : ℕ). n % 2 ^ 64) one ∙ mod-eq_of_lt lt
