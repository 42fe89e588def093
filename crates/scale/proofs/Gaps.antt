-- A value's steps as a whole number plus 0 or NaN give the value. Assumes nothing.
use mathlib.Core.Path.{◌≡◌, refl, sym, ap, ◌∙◌, subst}
use mathlib.Core.Bool.{Bool, true, false, cond}
use Prim.Native.Nat.{ℕ, ◌+◌, ◌-◌, ◌*◌, ◌<◌}
use native.Mathlib.Nat.{lt_of_lt_of_le, le_of_lt, mul-one, zero-mul, add-zero, mul-pos}
use native.Mathlib.Omega.{arith}
use lib.IntN.{pos}
use lib.Dec.{T, ltb, lit≤, lit<}
use lib.Ieee.{Float, nan, inf, fin, binary32, up, down, round, of_int, sum, add, mul}
use lib.Ieee.Fits.{down_pos}
use lib.Ieee.Exact.{HasValue}
use lib.Ieee.Back.{round_whole}
use Rattle.wire.specs.Float.{f32, whole32, ◌⊕◌, ◌⊗◌}
use Rattle.scale.specs.Physical.{open_value, capped_value}
use Rattle.scale.proofs.Valid.{open_choice, capped_choice}
use Rattle.scale.proofs.Whole.{near}

zero_is : f32 0 1 ≡ fin false 0 (pos 0)
unfolding f32 round
zero_is = refl

not_negative : ◌≡◌ {A = Bool} true false → ⊥
not_negative e = subst T e tt

-- a sum with 0
plus_zero : (x : Float) (n : ℕ) → n < 65536 → HasValue x false n 1 → add binary32 x (fin false 0 (pos 0)) ≡ whole32 (pos n)
unfolding add sum
plus_zero nan n h v = absurd v
plus_zero (inf t) n h v = absurd v
plus_zero (fin true m e) n h v = absurd (not_negative v.0)
plus_zero (fin false m e) n h v =
    near (m * up e * 1 + 0 * 1 * down e) (down e * 1) n (mul-pos (down_pos e) (lit< tt)) h
    (ap (λ (x : ℕ). m * up e * 1 + x * down e) (zero-mul 1)
    ∙ ap (λ (x : ℕ). m * up e * 1 + x) (zero-mul (down e))
    ∙ add-zero (m * up e * 1)
    ∙ v.1
    ∙ ap (λ (x : ℕ). n * x) (sym (mul-one (down e))))

value_of : (n : ℕ) → n < 65536 → HasValue (whole32 (pos n)) false n 1
unfolding of_int
value_of n h = round_whole binary32 false n (le_of_lt (lt_of_lt_of_le h (lit≤ tt)))

pub whole_plus_0 : (n : ℕ) → n < 65536 → whole32 (pos n) ⊕ f32 0 1 ≡ whole32 (pos n)
whole_plus_0 n h = ap (add binary32 (whole32 (pos n))) zero_is ∙ plus_zero (whole32 (pos n)) n h (value_of n h)

pub plus_nan : (x : Float) → x ⊕ nan ≡ nan
unfolding add
plus_nan nan = refl
plus_nan (inf t) = refl
plus_nan (fin t m e) = refl

nan_line : (m step : Float) → m ⊕ nan ⊗ step ≡ nan
unfolding mul
nan_line m step = plus_nan m

module _ (m step : Float) (floor code : ℕ) {s : Float} (e : s ≡ cond (ltb code floor) nan (whole32 (pos (code - floor)))) where
  pub open_is : m ⊕ s ⊗ step ≡ open_value m step floor code
  open_is = ap (λ (x : Float). m ⊕ x ⊗ step) e ∙ go (ltb code floor) ∙ sym (open_choice floor code _ nan)
    where
      go : (b : Bool) → m ⊕ cond b nan (whole32 (pos (code - floor))) ⊗ step ≡ cond b nan (m ⊕ whole32 (pos (code - floor)) ⊗ step)
      go true = nan_line m step
      go false = refl

  pub capped_is : (top : ℕ) {g : Float} → code < 65536 → g ≡ cond (ltb top code) nan (f32 0 1) → m ⊕ (s ⊕ g) ⊗ step ≡ capped_value m step floor top code
  unfolding add
  capped_is top {g} small w = ap (λ (x : Float). m ⊕ (s ⊕ x) ⊗ step) w ∙ go (ltb top code) ∙ sym (capped_choice floor top code _ nan)
    where
      kept : (b : Bool) → s ≡ cond b nan (whole32 (pos (code - floor))) → s ⊕ f32 0 1 ≡ s
      kept true t = ap (λ (x : Float). x ⊕ f32 0 1) t ∙ sym t
      kept false t = ap (λ (x : Float). x ⊕ f32 0 1) t ∙ whole_plus_0 (code - floor) (omega arith) ∙ sym t

      go : (b : Bool) → m ⊕ (s ⊕ cond b nan (f32 0 1)) ⊗ step ≡ cond b nan (open_value m step floor code)
      go true = ap (λ (x : Float). m ⊕ x ⊗ step) (plus_nan s) ∙ nan_line m step
      go false = ap (λ (x : Float). m ⊕ x ⊗ step) (kept (ltb code floor) e) ∙ open_is
