-- The value of the halfword scheme, as floats give it: m / 10 + k × (I / 10), where the quotients, the product and the sum are each rounded by
-- at most half a unit of the last place. It is within 1 / 8 of the exact one, and larger for a larger k. Assumes nothing.
use mathlib.Core.Path.{◌≡◌, refl, sym, ap, ◌∙◌, subst}
use mathlib.Core.Bool.{Bool, true, false, cond, true≢false, false≢true}
use mathlib.Core.Logic.{inl, inr}
use Prim.Native.Nat.{ℕ, suc, ◌+◌, ◌-◌, ◌*◌, ◌^◌, ◌≤◌, ◌<◌}
use native.Mathlib.Nat.{lt_of_le_of_lt, le_of_lt, le_refl, zero-mul, mul_assoc, mul_comm, mul_right_comm, mul-one, add-mul, suc-mul, mul-pos, mul-le-mul_right, mul-lt-mul_of_pos_right, lt_of_mul-lt-mul_right, eq_of_mul-eq-mul_right}
use native.Mathlib.Omega.{arith}
use borrow.Author.Tests.{lt-ltb, le-ltb}
use lib.Dec.{ltb, lit<, lit≤}
use lib.IntN.{ℤ, pos, negsuc}
use lib.Ieee.{Float, nan, inf, fin, binary32, down, round, of_int, add, mul, div}
use lib.Ieee.Fits.{down_pos, add-fits}
use lib.Ieee.Exact.{HasValue}
use lib.Ieee.Back.{round_whole}
use lib.Ieee.Scale.{grid}
use Rattle.wire.specs.Float.{f32}
use Rattle.scale.specs.Tenths.{Fraction, number, own, Same, plus, minus, Near, Less}
use Rattle.scale.proofs.Denoted.{number_is}
use Rattle.scale.proofs.Rounding.{Within, grid_below, round_val}
use Rattle.scale.proofs.Operations.{lt_or_ge, div_ten, mul_val, add_val, sub_val}
use Rattle.scale.proofs.TenthSums.{tenth, times, units, small, conclude, conclude_below, min_small, exact_small, prod_small, sum_small, value_small, up_over, up_below, mid_over, mid_below, low_over, low_below, eighth, eighth', ordered, gap_one, gap_two, exact_one, prod_one, sum_one}

-- the unit of TenthSums.antt
abbrev u : ℕ
u = 2 ^ 136

-- how many of the smallest f32 make 1
abbrev pub L : ℕ
L = 2 ^ 149

ten : f32 10 1 ≡ fin false 5 (pos 1)
unfolding f32
ten = refl

of_pos : (n : ℕ) → of_int binary32 (pos n) ≡ round binary32 false n 1
unfolding of_int
of_pos n = refl

pub of_neg : (n : ℕ) → of_int binary32 (negsuc n) ≡ round binary32 true (suc n) 1
unfolding of_int
of_neg n = refl

-- a tenth of a whole number of at most 16 bits
module _ (s : Bool) (n : ℕ) (h : n ≤ 32768) where
  below_top : n ≤ 2 ^ 24
  below_top = omega arith

  tenth_is : div binary32 (round binary32 s n 1) (f32 10 1) ≡ round binary32 s n 10
  tenth_is = ap (λ (z : Float). div binary32 (round binary32 s n 1) z) ten ∙ div_ten (round binary32 s n 1) s n (round_whole binary32 s n below_top)

  tenth_near : Within (grid binary32 n 10 * 10) (8192 * (n * u)) (10 * u)
  tenth_near = tenth (grid binary32 n 10) n u (grid_below binary32 n 10 12 (lit< tt) (omega arith))

  pub tenth_val : HasValue (div binary32 (round binary32 s n 1) (f32 10 1)) s (grid binary32 n 10) L
  tenth_val = subst (λ (z : Float). HasValue z s (grid binary32 n 10) L) (sym tenth_is) (round_val binary32 s n 10 (lt_of_le_of_lt (min_small (grid binary32 n 10) n u h tenth_near) (lit< tt)))

-- the product of a code's number and the step
module _ (I k : ℕ) (hI : I ≤ 32767) (hk : k ≤ 253) where
  wide : I ≤ 32768
  wide = omega arith

  abbrev S : ℕ
  S = grid binary32 I 10

  abbrev P : ℕ
  P = grid binary32 (k * S) L

  abbrev product : Float
  product = mul binary32 (of_int binary32 (pos k)) (div binary32 (of_int binary32 (pos I)) (f32 10 1))

  few : k ≤ 2 ^ 24
  few = omega arith

  x_near : Within (k * S * 10) (8192 * (k * I * u)) (2530 * u)
  x_near = times k S I u hk (tenth_near false I wide)

  p_near : Within (P * 2) (k * S * 2) (512 * u)
  p_near = units P (k * S) (512 * u) L (lit< tt) (grid_below binary32 (k * S) L 20 (lit< tt) (exact_small (k * S) (k * I * u) u (lit< tt) (small k I u hk hI) x_near))

  p_small : P ≤ 7000000000 * u
  p_small = prod_small P (k * S) (k * I * u) u (small k I u hk hI) x_near p_near

  product_val : HasValue product false P L
  product_val =
      subst (λ (z : Float). HasValue z false P L)
      (sym (ap (λ (z : Float). mul binary32 z (div binary32 (of_int binary32 (pos I)) (f32 10 1))) (of_pos k)
      ∙ ap (λ (z : Float). mul binary32 (round binary32 false k 1) (div binary32 z (f32 10 1))) (of_pos I)
      ∙ mul_val binary32 (round binary32 false k 1) (div binary32 (round binary32 false I 1) (f32 10 1)) k 1 S L (lit< tt) (lit< tt) (round_whole binary32 false k few) (tenth_val false I wide)))
      (round_val binary32 false (k * S) L (lt_of_le_of_lt p_small (lit< tt)))

-- ---- x is (s - t) / L, and 20 * L times its distance from (m + k * I) / 10 is at most 20 * d + 5080 * u
record Units (m : ℤ) (I k d : ℕ) (x : Fraction) : Type 0 where
  s : ℕ
  t : ℕ
  finite : 0 < x.whole
  s_is : x.above * L ≡ s * x.whole
  t_is : x.under * L ≡ t * x.whole
  over : 20 * s + 2 * (minus m * L) ≤ 2 * ((plus m + k * I) * L) + 20 * t + (20 * d + 5080 * u)
  below : 2 * ((plus m + k * I) * L) + 20 * t ≤ 20 * s + 2 * (minus m * L) + (20 * d + 5080 * u)

from_above : (m : ℤ) (I k d n : ℕ) (v : Float) → HasValue v false n L
    → 20 * n + 2 * (minus m * L) ≤ 2 * ((plus m + k * I) * L) + 20 * 0 + (20 * d + 5080 * u) → 2 * ((plus m + k * I) * L) + 20 * 0 ≤ 20 * n + 2 * (minus m * L) + (20 * d + 5080 * u) → Units m I k d (own v)
from_above m I k d n nan h a b = absurd h
from_above m I k d n (inf g) h a b = absurd h
from_above m I k d n (fin true x e) h a b = absurd (true≢false h.0)
from_above m I k d n (fin false x e) h a b = record { s = n; t = 0; finite = down_pos e; s_is = h.1; t_is = sym (zero-mul (down e)); over = a; below = b }

from_under : (m : ℤ) (I k d n : ℕ) (v : Float) → HasValue v true n L
    → 20 * 0 + 2 * (minus m * L) ≤ 2 * ((plus m + k * I) * L) + 20 * n + (20 * d + 5080 * u) → 2 * ((plus m + k * I) * L) + 20 * n ≤ 20 * 0 + 2 * (minus m * L) + (20 * d + 5080 * u) → Units m I k d (own v)
from_under m I k d n nan h a b = absurd h
from_under m I k d n (inf g) h a b = absurd h
from_under m I k d n (fin false x e) h a b = absurd (false≢true h.0)
from_under m I k d n (fin true x e) h a b = record { s = 0; t = n; finite = down_pos e; s_is = sym (zero-mul (down e)); t_is = h.1; over = a; below = b }

-- ---- the sum of the minimum and the product
abbrev pub sum_at : ℤ → ℕ → ℕ → Float
sum_at m I k = add binary32 (div binary32 (of_int binary32 m) (f32 10 1)) (mul binary32 (of_int binary32 (pos k)) (div binary32 (of_int binary32 (pos I)) (f32 10 1)))

even : (a b : ℕ) → a ≤ b → b ≤ a → a - b ≡ b - a
even a b h k = omega arith

less_than_sum : (a b : ℕ) → a - b ≤ a + b
less_than_sum a b = omega arith

less_than_sum' : (a b : ℕ) → b - a ≤ a + b
less_than_sum' a b = omega arith

module _ (M I k : ℕ) (hM : M ≤ 32768) (hI : I ≤ 32767) (hk : k ≤ 253) where
  abbrev W : ℕ
  W = grid binary32 M 10

  abbrev Q : ℕ
  Q = P I k hI hk

  w_near : Within (W * 10) (8192 * (M * u)) (10 * u)
  w_near = tenth_near false M hM

  w_small : W ≤ 30000000 * u
  w_small = min_small W M u hM w_near

  -- the rounded sum or difference z of the two, in units
  module _ (z : ℕ) (hz : z ≤ W + Q) where
    z_near : Within (grid binary32 z L * 2) (z * 2) (512 * u)
    z_near = units (grid binary32 z L) z (512 * u) L (lit< tt) (grid_below binary32 z L 20 (lit< tt) (sum_small z W Q u (lit< tt) w_small (p_small I k hI hk) hz))

    z_val : (s : Bool) → HasValue (round binary32 s z L) s (grid binary32 z L) L
    z_val s = round_val binary32 s z L (lt_of_le_of_lt (value_small (grid binary32 z L) z W Q u w_small (p_small I k hI hk) hz z_near) (lit< tt))

  -- d is any bound on the errors of the product and the sum
  module _ (d : ℕ) (hP : Within (Q * 2) (k * S I k hI hk * 2) d) (hT : (z : ℕ) → z ≤ W + Q → Within (grid binary32 z L * 2) (z * 2) d) where
    up_units : Units (pos M) I k d (own (sum_at (pos M) I k))
    up_units =
        let z = W + Q in
        let e : sum_at (pos M) I k ≡ round binary32 false z L =
        ap (λ (y : Float). add binary32 (div binary32 y (f32 10 1)) (product I k hI hk)) (of_pos M)
        ∙ add_val binary32 (div binary32 (round binary32 false M 1) (f32 10 1)) (product I k hI hk) W Q L (lit< tt) (tenth_val false M hM) (product_val I k hI hk) in
        from_above (pos M) I k d (grid binary32 z L) (sum_at (pos M) I k) (subst (λ (y : Float). HasValue y false (grid binary32 z L) L) (sym e) (z_val z (le_refl z) false))
        (up_over M (k * I) u d W (k * S I k hI hk) Q w_near (x_near I k hI hk) hP (grid binary32 z L) (hT z (le_refl z)))
        (up_below M (k * I) u d W (k * S I k hI hk) Q w_near (x_near I k hI hk) hP (grid binary32 z L) (hT z (le_refl z)))

    -- a minimum of -M / 10, for M = suc N
    module _ (N : ℕ) (hN : M ≡ suc N) where
      abbrev value : Float
      value = sum_at (negsuc N) I k

      split : value ≡ cond (ltb W Q) (round binary32 false (Q - W) L) (round binary32 (ltb Q W) (W - Q) L)
      split =
          ap (λ (y : Float). add binary32 (div binary32 y (f32 10 1)) (product I k hI hk)) (of_neg N ∙ ap (λ (n : ℕ). round binary32 true n 1) (sym hN))
          ∙ sub_val binary32 (div binary32 (round binary32 true M 1) (f32 10 1)) (product I k hI hk) W Q L (lit< tt) (tenth_val true M hM) (product_val I k hI hk)

      at : (a b : Bool) → ltb W Q ≡ a → ltb Q W ≡ b → value ≡ cond a (round binary32 false (Q - W) L) (round binary32 b (W - Q) L)
      at a b p q = split ∙ ap (λ (x : Bool). cond x (round binary32 false (Q - W) L) (round binary32 (ltb Q W) (W - Q) L)) p ∙ ap (λ (x : Bool). cond a (round binary32 false (Q - W) L) (round binary32 x (W - Q) L)) q

      mid : (z : ℕ) → z ≡ Q - W → W ≤ Q → value ≡ round binary32 false z L → Units (negsuc N) I k d (own value)
      mid z q l e =
          let b : z ≤ W + Q = subst (λ (x : ℕ). x ≤ W + Q) (sym q) (less_than_sum' W Q) in
          let t = subst (λ (x : ℕ). Within (grid binary32 z L * 2) (x * 2) d) q (hT z b) in
          from_above (negsuc N) I k d (grid binary32 z L) value (subst (λ (y : Float). HasValue y false (grid binary32 z L) L) (sym e) (z_val z b false))
          (subst (λ (n : ℕ). 20 * grid binary32 z L + 2 * (n * L) ≤ 2 * ((0 + k * I) * L) + 20 * 0 + (20 * d + 5080 * u)) hN (mid_over M (k * I) u d W (k * S I k hI hk) Q w_near (x_near I k hI hk) hP (grid binary32 z L) l t))
          (subst (λ (n : ℕ). 2 * ((0 + k * I) * L) + 20 * 0 ≤ 20 * grid binary32 z L + 2 * (n * L) + (20 * d + 5080 * u)) hN (mid_below M (k * I) u d W (k * S I k hI hk) Q w_near (x_near I k hI hk) hP (grid binary32 z L) l t))

      low : Q ≤ W → value ≡ round binary32 true (W - Q) L → Units (negsuc N) I k d (own value)
      low l e =
          let z = W - Q in
          let t = hT z (less_than_sum W Q) in
          from_under (negsuc N) I k d (grid binary32 z L) value (subst (λ (y : Float). HasValue y true (grid binary32 z L) L) (sym e) (z_val z (less_than_sum W Q) true))
          (subst (λ (n : ℕ). 20 * 0 + 2 * (n * L) ≤ 2 * ((0 + k * I) * L) + 20 * grid binary32 z L + (20 * d + 5080 * u)) hN (low_over M (k * I) u d W (k * S I k hI hk) Q w_near (x_near I k hI hk) hP (grid binary32 z L) l t))
          (subst (λ (n : ℕ). 2 * ((0 + k * I) * L) + 20 * grid binary32 z L ≤ 20 * 0 + 2 * (n * L) + (20 * d + 5080 * u)) hN (low_below M (k * I) u d W (k * S I k hI hk) Q w_near (x_near I k hI hk) hP (grid binary32 z L) l t))

      down_units : Units (negsuc N) I k d (own value)
      down_units = elim (lt_or_ge W Q) [
        | inl l ↦ mid (Q - W) refl (le_of_lt l) (at true false (lt-ltb W Q l) (le-ltb Q W (le_of_lt l)))
        | inr g ↦ elim (lt_or_ge Q W) [
          | inl l ↦ low g (at false true (le-ltb W Q g) (lt-ltb Q W l))
          | inr h ↦ mid (W - Q) (even W Q h g) h (at false false (le-ltb W Q g) (le-ltb Q W h))
        ]
      ]

-- ---- for every step
coarse : (m : ℤ) (I k : ℕ) → plus m ≤ 32767 → minus m ≤ 32768 → I ≤ 32767 → k ≤ 253 → Units m I k (512 * u) (own (sum_at m I k))
coarse (pos M) I k h g hI hk = let hM : M ≤ 32768 = omega arith in up_units M I k hM hI hk (512 * u) (p_near I k hI hk) (z_near M I k hM hI hk)
coarse (negsuc N) I k h g hI hk = down_units (suc N) I k g hI hk (512 * u) (p_near I k hI hk) (z_near (suc N) I k g hI hk) N refl

-- ---- for a step of one tenth, whose product and sum are below 2 ^ 12
module _ (k : ℕ) (hk : k ≤ 253) where
  one : 1 ≤ 32767
  one = lit≤ tt

  tiny : k * 1 * u ≤ 253 * u
  tiny = mul-le-mul_right u (subst (λ (x : ℕ). x ≤ 253) (sym (mul-one k)) hk)

  p_fine : Within (P 1 k one hk * 2) (k * S 1 k one hk * 2) (2 * u)
  p_fine = units (P 1 k one hk) (k * S 1 k one hk) (2 * u) L (lit< tt) (grid_below binary32 (k * S 1 k one hk) L 12 (lit< tt) (exact_one (k * S 1 k one hk) (k * 1 * u) u (lit< tt) tiny (x_near 1 k one hk)))

  z_fine : (M : ℕ) (hM : M ≤ 32768) (z : ℕ) → z ≤ W M 1 k hM one hk + P 1 k one hk → Within (grid binary32 z L * 2) (z * 2) (2 * u)
  z_fine M hM z hz =
      units (grid binary32 z L) z (2 * u) L (lit< tt)
      (grid_below binary32 z L 12 (lit< tt) (sum_one z (W M 1 k hM one hk) (P 1 k one hk) u (lit< tt) (w_small M 1 k hM one hk) (prod_one (P 1 k one hk) (k * S 1 k one hk) (k * 1 * u) u tiny (x_near 1 k one hk) p_fine) hz))

  fine : (m : ℤ) → plus m ≤ 32767 → minus m ≤ 32768 → Units m 1 k (2 * u) (own (sum_at m 1 k))
  fine (pos M) h g = let hM : M ≤ 32768 = omega arith in up_units M 1 k hM one hk (2 * u) p_fine (z_fine M hM)
  fine (negsuc N) h g = down_units (suc N) 1 k g one hk (2 * u) p_fine (z_fine (suc N) g) N refl

-- ---- the same of the number that the bits denote
in_bits : (m : ℤ) (I k d : ℕ) (x y : Fraction) → Same x y → Units m I k d y → Units m I k d x
in_bits m I k d x y e w = record {
  s = w.s;
  t = w.t;
  finite = e.there w.finite;
  s_is = across x.above x.whole y.above y.whole w.s w.finite e.above w.s_is;
  t_is = across x.under x.whole y.under y.whole w.t w.finite e.under w.t_is;
  over = w.over;
  below = w.below;
}
  where
    across : (a c b d n : ℕ) → 0 < d → a * d ≡ b * c → b * L ≡ n * d → a * L ≡ n * c
    across a c b d n p q r =
        eq_of_mul-eq-mul_right d p (a * L) (n * c)
        (mul_right_comm a L d ∙ ap (λ (z : ℕ). z * L) q ∙ mul_right_comm b c L ∙ ap (λ (z : ℕ). z * c) r ∙ mul_right_comm n d c)

sum_bits : (m : ℤ) (I k d : ℕ) → Units m I k d (own (sum_at m I k)) → Units m I k d (number (sum_at m I k))
sum_bits m I k d = in_bits m I k d (number (sum_at m I k)) (own (sum_at m I k)) (number_is (sum_at m I k) (add-fits binary32 _ _))

-- ---- the two statements, for halfwords m and I
near_of : (m : ℤ) (I k : ℕ) (x : Fraction) → Units m I k (512 * u) x → Near m I k x
near_of m I k x w = record {
  finite = w.finite;
  not_over = conclude x.whole x.above x.under w.s w.t (minus m) (plus m + k * I) L (lit< tt) w.s_is w.t_is (eighth w.s w.t (minus m) (plus m + k * I) u w.over);
  not_below = conclude_below x.whole x.above x.under w.s w.t (minus m) (plus m + k * I) L (lit< tt) w.s_is w.t_is (eighth' w.s w.t (minus m) (plus m + k * I) u w.below);
}

pub near : (m : ℤ) (I k : ℕ) → plus m ≤ 32767 → minus m ≤ 32768 → I ≤ 32767 → k ≤ 253 → Near m I k (number (sum_at m I k))
near m I k h g hI hk = near_of m I k _ (sum_bits m I k (512 * u) (coarse m I k h g hI hk))

-- the order of two fractions over L
less_of : (X Y D X' Y' D' s t s' t' : ℕ) → 0 < D → 0 < D' → X * L ≡ s * D → Y * L ≡ t * D → X' * L ≡ s' * D' → Y' * L ≡ t' * D' → s + t' < s' + t → X * D' + Y' * D < X' * D + Y * D'
less_of X Y D X' Y' D' s t s' t' p p' a b a' b' h =
    lt_of_mul-lt-mul_right L
    (subst (λ (z : ℕ). z < (X' * D + Y * D') * L) (sym (sides X Y' s t' D D' a b'))
    (subst (λ (z : ℕ). (s + t') * (D * D') < z) (sym (sides X' Y s' t D' D a' b ∙ ap (λ (z : ℕ). (s' + t) * z) (mul_comm D' D)))
    (mul-lt-mul_of_pos_right h (mul-pos p p'))))
  where
    sides : (A B i j E F : ℕ) → A * L ≡ i * E → B * L ≡ j * F → (A * F + B * E) * L ≡ (i + j) * (E * F)
    sides A B i j E F x y =
        add-mul (A * F) (B * E) L
        ∙ ap (λ (z : ℕ). z + B * E * L) (mul_right_comm A F L ∙ ap (λ (z : ℕ). z * F) x ∙ mul_assoc i E F)
        ∙ ap (λ (z : ℕ). i * (E * F) + z) (mul_right_comm B E L ∙ ap (λ (z : ℕ). z * E) y ∙ mul_assoc j F E ∙ ap (λ (z : ℕ). j * z) (mul_comm F E))
        ∙ sym (add-mul i j (E * F))

larger_of : (m : ℤ) (I k k' d : ℕ) (x y : Fraction) → 2 * (20 * d + 5080 * u) + 2 * (k * I * L) < 2 * (k' * I * L) → Units m I k d x → Units m I k' d y → Less x y
larger_of m I k k' d x y h v w =
    less_of x.above x.under x.whole y.above y.under y.whole v.s v.t w.s w.t v.finite w.finite v.s_is v.t_is w.s_is w.t_is
    (ordered v.s v.t w.s w.t (minus m) (plus m) (k * I) (k' * I) d u (lit< tt) h v.over w.below)

step_up : (k k' I : ℕ) → k < k' → k * I + I ≤ k' * I
step_up k k' I h = let a : suc k * I ≤ k' * I = mul-le-mul_right I h in let b : suc k * I ≡ k * I + I = suc-mul k I in omega arith

apart : (k k' I : ℕ) → k < k' → 2 ≤ I → k * I + 2 ≤ k' * I
apart k k' I h g = let a = step_up k k' I h in omega arith

-- An eighth does not tell two values a tenth apart: there the values are small, and so is the error.
pub larger : (m : ℤ) (I k k' : ℕ) → plus m ≤ 32767 → minus m ≤ 32768 → 1 ≤ I → I ≤ 32767 → k < k' → k' ≤ 253 → Less (number (sum_at m I k)) (number (sum_at m I k'))
larger m I k k' h g lo hi l e = elim (lt_or_ge 1 I) [
  | inl two ↦
      larger_of m I k k' (512 * u) _ _ (gap_two (k * I) (k' * I) u (lit< tt) (apart k k' I l two)) (sum_bits m I k (512 * u) (coarse m I k h g hi (omega arith)))
      (sum_bits m I k' (512 * u) (coarse m I k' h g hi e))
  | inr one-or-less ↦
      let is_one : 1 ≡ I = omega arith in
      subst (λ (i : ℕ). Less (number (sum_at m i k)) (number (sum_at m i k'))) is_one
      (larger_of m 1 k k' (2 * u) _ _ (gap_one (k * 1) (k' * 1) u (lit< tt) (step_up k k' 1 l)) (sum_bits m 1 k (2 * u) (fine k (omega arith) m h g)) (sum_bits m 1 k' (2 * u) (fine k' e m h g)))
]
