-- The errors of a tenth, a product and a sum, added up in whole numbers. u stands for 2 ^ 136 units of the smallest f32, so that 8192 * u
-- units make 1: `omega` reads no number of more than 38 digits. Assumes nothing.
use mathlib.Core.Path.{◌≡◌, sym, ap, ◌∙◌}
use Prim.Native.Nat.{ℕ, ◌+◌, ◌-◌, ◌*◌, ◌≤◌, ◌<◌}
use native.Mathlib.Nat.{le_trans, le_of_eq, mul_assoc, mul_comm, mul_left_comm, mul_right_comm, mul-add, add-mul, mul-le-mul, mul-le-mul_left, mul-le-mul_right, le_of_mul-le-mul_right, zero-mul}
use native.Mathlib.Omega.{arith}
use Rattle.scale.proofs.Rounding.{Within}

-- a tenth of a, rounded to g units
pub tenth : (g a u : ℕ) → Within (g * 10 * 2) (a * (8192 * u) * 2) (10 * (2 * u)) → Within (g * 10) (8192 * (a * u)) (10 * u)
tenth g a u w =
    let e : a * (8192 * u) ≡ 8192 * (a * u) = mul_left_comm a 8192 u in
    let x = w.0 in
    let y = w.1 in
    (omega arith, omega arith)

-- k times that
pub times : (k g a u : ℕ) → k ≤ 253 → Within (g * 10) (8192 * (a * u)) (10 * u) → Within (k * g * 10) (8192 * (k * a * u)) (2530 * u)
times k g a u h w =
    let p : k * (g * 10) ≡ k * g * 10 = sym (mul_assoc k g 10) in
    let q : k * (8192 * (a * u)) ≡ 8192 * (k * a * u) = mul_left_comm k 8192 (a * u) ∙ ap (λ (z : ℕ). 8192 * z) (sym (mul_assoc k a u)) in
    let r : k * (10 * u) ≡ 10 * (k * u) = mul_left_comm k 10 u in
    let s : k * u ≤ 253 * u = mul-le-mul_right u h in
    let x : k * (g * 10) ≤ k * (8192 * (a * u)) + k * (10 * u) = le_trans (mul-le-mul_left k w.0) (le_of_eq (mul-add k (8192 * (a * u)) (10 * u))) in
    let y : k * (8192 * (a * u)) ≤ k * (g * 10) + k * (10 * u) = le_trans (mul-le-mul_left k w.1) (le_of_eq (mul-add k (g * 10) (10 * u))) in
    (omega arith, omega arith)

-- a number of units, rounded
pub units : (p q d l : ℕ) → 0 < l → Within (p * l * 2) (q * l * 2) (l * d) → Within (p * 2) (q * 2) d
units p q d l h w = (half p q w.0, half q p w.1)
  where
    half : (a b : ℕ) → a * l * 2 ≤ b * l * 2 + l * d → a * 2 ≤ b * 2 + d
    half a b x = le_of_mul-le-mul_right (le_trans (le_of_eq (mul_right_comm a 2 l)) (le_trans x (le_of_eq (ap (λ (z : ℕ). z + l * d) (mul_right_comm b l 2) ∙ ap (λ (z : ℕ). b * 2 * l + z) (mul_comm l d) ∙ sym (add-mul (b * 2) d l))))) h

pub small : (k a u : ℕ) → k ≤ 253 → a ≤ 32767 → k * a * u ≤ 8290051 * u
small k a u h l = mul-le-mul_right u (mul-le-mul h l)

-- From a bound with T / q for the value, q units to 1, to one with X / D
pub conclude : (D X Y s t n E q : ℕ) → 0 < q → X * q ≡ s * D → Y * q ≡ t * D → 80 * s + 8 * (n * q) ≤ 8 * (E * q) + 80 * t + 10 * q → 80 * X + 8 * n * D ≤ 8 * E * D + 80 * Y + 10 * D
conclude D X Y s t n E q h hX hY c =
    let d = mul-le-mul_right D c in
    le_of_mul-le-mul_right (simp (add-mul, mul_assoc, hX, hY, mul_comm D q) (simp (add-mul, mul_assoc) at d)) h

pub conclude_below : (D X Y s t n E q : ℕ) → 0 < q → X * q ≡ s * D → Y * q ≡ t * D → 8 * (E * q) + 80 * t ≤ 80 * s + 8 * (n * q) + 10 * q → 8 * E * D + 80 * Y ≤ 80 * X + 8 * n * D + 10 * D
conclude_below D X Y s t n E q h hX hY c =
    let d = mul-le-mul_right D c in
    le_of_mul-le-mul_right (simp (add-mul, mul_assoc, hX, hY, mul_comm D q) (simp (add-mul, mul_assoc) at d)) h

-- W / q is the rounded minimum, x / q the exact product of k and the rounded step, P / q and T / q the rounded product and sum, for
-- q = 8192 * u. A and B stand for M * u and k * I * u.

-- ---- nothing leaves the range
pub min_small : (W M u : ℕ) → M ≤ 32768 → Within (W * 10) (8192 * (M * u)) (10 * u) → W ≤ 30000000 * u
min_small W M u h w = let a : M * u ≤ 32768 * u = mul-le-mul_right u h in let x = w.0 in omega arith

pub exact_small : (x B u : ℕ) → 0 < u → B ≤ 8290051 * u → Within (x * 10) (8192 * B) (2530 * u) → x < 1048576 * (8192 * u)
exact_small x B u h b w = let y = w.0 in omega arith

pub prod_small : (P x B u : ℕ) → B ≤ 8290051 * u → Within (x * 10) (8192 * B) (2530 * u) → Within (P * 2) (x * 2) (512 * u) → P ≤ 7000000000 * u
prod_small P x B u b w p = let y = w.0 in let z = p.0 in omega arith

pub sum_small : (Z W P u : ℕ) → 0 < u → W ≤ 30000000 * u → P ≤ 7000000000 * u → Z ≤ W + P → Z < 1048576 * (8192 * u)
sum_small Z W P u h w p z = omega arith

pub value_small : (T Z W P u : ℕ) → W ≤ 30000000 * u → P ≤ 7000000000 * u → Z ≤ W + P → Within (T * 2) (Z * 2) (512 * u) → T ≤ 8000000000 * u
value_small T Z W P u w p z t = let y = t.0 in omega arith

-- the same where the step is one tenth
pub exact_one : (x B u : ℕ) → 0 < u → B ≤ 253 * u → Within (x * 10) (8192 * B) (2530 * u) → x < 4096 * (8192 * u)
exact_one x B u h b w = let y = w.0 in omega arith

pub prod_one : (P x B u : ℕ) → B ≤ 253 * u → Within (x * 10) (8192 * B) (2530 * u) → Within (P * 2) (x * 2) (2 * u) → P ≤ 210000 * u
prod_one P x B u b w p = let y = w.0 in let z = p.0 in omega arith

pub sum_one : (z W P u : ℕ) → 0 < u → W ≤ 30000000 * u → P ≤ 210000 * u → z ≤ W + P → z < 4096 * (8192 * u)
sum_one z W P u h w p l = omega arith

-- ---- the sum of the errors. d is twice the error of the product, and of the sum
module _ (M K u d W x P : ℕ) (hW : Within (W * 10) (8192 * (M * u)) (10 * u)) (hx : Within (x * 10) (8192 * (K * u)) (2530 * u)) (hP : Within (P * 2) (x * 2) d) where
  at_m : M * (8192 * u) ≡ 8192 * (M * u)
  at_m = mul_left_comm M 8192 u

  at_k : K * (8192 * u) ≡ 8192 * (K * u)
  at_k = mul_left_comm K 8192 u

  -- a minimum that is not negative
  pub up_over : (T : ℕ) → Within (T * 2) ((W + P) * 2) d → 20 * T + 2 * (0 * (8192 * u)) ≤ 2 * ((M + K) * (8192 * u)) + 20 * 0 + (20 * d + 5080 * u)
  up_over T w = let a = hW.0 in let b = hx.0 in let c = hP.0 in let t = w.0 in let e = add-mul M K (8192 * u) in let f = at_m in let g = at_k in let z = zero-mul (8192 * u) in omega arith

  pub up_below : (T : ℕ) → Within (T * 2) ((W + P) * 2) d → 2 * ((M + K) * (8192 * u)) + 20 * 0 ≤ 20 * T + 2 * (0 * (8192 * u)) + (20 * d + 5080 * u)
  up_below T w = let a = hW.1 in let b = hx.1 in let c = hP.1 in let t = w.1 in let e = add-mul M K (8192 * u) in let f = at_m in let g = at_k in let z = zero-mul (8192 * u) in omega arith

  -- a negative minimum, and a value that is not negative
  pub mid_over : (T : ℕ) → W ≤ P → Within (T * 2) ((P - W) * 2) d → 20 * T + 2 * (M * (8192 * u)) ≤ 2 * ((0 + K) * (8192 * u)) + 20 * 0 + (20 * d + 5080 * u)
  mid_over T l w = let a = hW.1 in let b = hx.0 in let c = hP.0 in let t = w.0 in let e = add-mul 0 K (8192 * u) in let f = at_m in let g = at_k in let z = zero-mul (8192 * u) in omega arith

  pub mid_below : (T : ℕ) → W ≤ P → Within (T * 2) ((P - W) * 2) d → 2 * ((0 + K) * (8192 * u)) + 20 * 0 ≤ 20 * T + 2 * (M * (8192 * u)) + (20 * d + 5080 * u)
  mid_below T l w = let a = hW.0 in let b = hx.1 in let c = hP.1 in let t = w.1 in let e = add-mul 0 K (8192 * u) in let f = at_m in let g = at_k in let z = zero-mul (8192 * u) in omega arith

  -- a negative value
  pub low_over : (T : ℕ) → P ≤ W → Within (T * 2) ((W - P) * 2) d → 20 * 0 + 2 * (M * (8192 * u)) ≤ 2 * ((0 + K) * (8192 * u)) + 20 * T + (20 * d + 5080 * u)
  low_over T l w = let a = hW.1 in let b = hx.0 in let c = hP.0 in let t = w.1 in let e = add-mul 0 K (8192 * u) in let f = at_m in let g = at_k in let z = zero-mul (8192 * u) in omega arith

  pub low_below : (T : ℕ) → P ≤ W → Within (T * 2) ((W - P) * 2) d → 2 * ((0 + K) * (8192 * u)) + 20 * T ≤ 20 * 0 + 2 * (M * (8192 * u)) + (20 * d + 5080 * u)
  low_below T l w = let a = hW.0 in let b = hx.1 in let c = hP.1 in let t = w.0 in let e = add-mul 0 K (8192 * u) in let f = at_m in let g = at_k in let z = zero-mul (8192 * u) in omega arith

-- ---- what the errors allow: an eighth, and the order of two codes
pub eighth : (s t n E u : ℕ) → 20 * s + 2 * (n * (8192 * u)) ≤ 2 * (E * (8192 * u)) + 20 * t + (20 * (512 * u) + 5080 * u) → 80 * s + 8 * (n * (8192 * u)) ≤ 8 * (E * (8192 * u)) + 80 * t + 10 * (8192 * u)
eighth s t n E u h = let a = mul_left_comm n 8192 u in let b = mul_left_comm E 8192 u in omega arith

pub eighth' : (s t n E u : ℕ) → 2 * (E * (8192 * u)) + 20 * t ≤ 20 * s + 2 * (n * (8192 * u)) + (20 * (512 * u) + 5080 * u) → 8 * (E * (8192 * u)) + 80 * t ≤ 80 * s + 8 * (n * (8192 * u)) + 10 * (8192 * u)
eighth' s t n E u h = let a = mul_left_comm n 8192 u in let b = mul_left_comm E 8192 u in omega arith

-- two values s - t and s' - t', at products K and K'
pub ordered : (s t s' t' n p K K' d u : ℕ) → 0 < u → 2 * (20 * d + 5080 * u) + 2 * (K * (8192 * u)) < 2 * (K' * (8192 * u))
    → 20 * s + 2 * (n * (8192 * u)) ≤ 2 * ((p + K) * (8192 * u)) + 20 * t + (20 * d + 5080 * u)
    → 2 * ((p + K') * (8192 * u)) + 20 * t' ≤ 20 * s' + 2 * (n * (8192 * u)) + (20 * d + 5080 * u) → s + t' < s' + t
ordered s t s' t' n p K K' d u h g a b = let e = add-mul p K (8192 * u) in let f = add-mul p K' (8192 * u) in omega arith

pub gap_two : (K K' u : ℕ) → 0 < u → K + 2 ≤ K' → 2 * (20 * (512 * u) + 5080 * u) + 2 * (K * (8192 * u)) < 2 * (K' * (8192 * u))
gap_two K K' u h g = let a : (K + 2) * (8192 * u) ≤ K' * (8192 * u) = mul-le-mul_right (8192 * u) g in let b = add-mul K 2 (8192 * u) in omega arith

pub gap_one : (K K' u : ℕ) → 0 < u → K + 1 ≤ K' → 2 * (20 * (2 * u) + 5080 * u) + 2 * (K * (8192 * u)) < 2 * (K' * (8192 * u))
gap_one K K' u h g = let a : (K + 1) * (8192 * u) ≤ K' * (8192 * u) = mul-le-mul_right (8192 * u) g in let b = add-mul K 1 (8192 * u) in omega arith
