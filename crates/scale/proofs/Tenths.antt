-- M-108: for codes 2 to 255 a value of the halfword scheme, by the halfwords of a file of bytes, is within 1 / 8 of the exact tenths, and a
-- larger code has a larger value. A scale that is declared has a positive step. Assumes nothing.
use mathlib.Core.Path.{◌≡◌, refl, sym, ap, ◌∙◌, subst}
use mathlib.Core.Bool.{Bool, true, false, ◌&&◌, ◌||◌, cond, true≢false, false≢true}
use mathlib.Core.List.{List}
use Prim.Native.Nat.{ℕ, zero, suc, ◌+◌, ◌-◌, ◌*◌, ◌≤◌, ◌<◌}
use native.Mathlib.Nat.{zero-mul}
use native.Mathlib.Omega.{arith}
use borrow.Author.Tests.{ltb-true, ltb-false, lt-ltb, le-leb}
use lib.Dec.{ltb, eqb, lit≤}
use lib.IntN.{ℤ, pos, negsuc, ◌-ℤ◌}
use lib.ListN.{length, get_or}
use lib.Ieee.{Float, nan, inf, fin, binary32, up, down, round, of_int, div, le, lt, eq}
use lib.Ieee.Exact.{HasValue}
use lib.Ieee.Scale.{grid}
use Rattle.wire.specs.Bytes.{u16_at, signed, i16_at}
use Rattle.wire.specs.Float.{f32, whole32, ◌⊘◌}
use Rattle.wire.specs.Result.{accepted}
use Rattle.wire.proofs.Numbers.{half_small}
use Rattle.wire.proofs.Results.{one_value, through, passed}
use Rattle.head.specs.Pdb.{field_at, hw_i16, hw_u16}
use Rattle.scale.specs.declared.physical.Scheme.TheVariants as Scheme
use Rattle.scale.specs.declared.physical.Scaling.{Scaling}
use Rattle.std.specs.Prelude.{Option}
use Rattle.scale.specs.declared.scaling.DeclaredLinearScale.{DeclaredLinearScale}
use Rattle.scale.specs.Scaling.{linear_hw, linear_declared}
use Rattle.scale.specs.Pdb.{value_scaling_linear_hw}
use Rattle.scale.specs.Physical.{scale_fields, declared_scale, value_of, physical_of}
use Rattle.scale.specs.Tenths.{number, plus, minus, Near, Less, Halfwords}
use Rattle.scale.proofs.TenthValues.{L, of_neg, tenth_val, sum_at, near, larger}

-- a signed halfword is from -32,768 to 32,767
signed_range : (n : ℕ) → n < 65536 → (plus (signed 32768 n) ≤ 32767) × (minus (signed 32768 n) ≤ 32768)
unfolding signed
signed_range n h = go (ltb n 32768) refl
  where
    top : (b : Bool) → ltb n 65536 ≡ b → 32768 ≤ n → (plus (cond b (negsuc (65536 - suc n)) (pos (n - 65536))) ≤ 32767) × (minus (cond b (negsuc (65536 - suc n)) (pos (n - 65536))) ≤ 32768)
    top true t k = (lit≤ tt, omega arith)
    top false t k = (omega arith, lit≤ tt)

    go : (b : Bool) → ltb n 32768 ≡ b → (plus (cond b (pos n) (pos n -ℤ pos 65536)) ≤ 32767) × (minus (cond b (pos n) (pos n -ℤ pos 65536)) ≤ 32768)
    go true t = let l = ltb-true n 32768 t in (omega arith, lit≤ tt)
    go false t = top (ltb n 65536) refl (ltb-false n 32768 t)

halfword_range : (file : List ℕ) (block index : ℕ) (z : ℤ) → ((k : ℕ) → get_or file k 0 < 256) → hw_i16 file block index ≡ accepted z → (plus z ≤ 32767) × (minus z ≤ 32768)
unfolding hw_i16 i16_at
halfword_range file block index z bytes e =
    through (field_at (length file) block index 2) _ z e λ k _ e₁.
    subst (λ (y : ℤ). (plus y ≤ 32767) × (minus y ≤ 32768)) (one_value e₁) (signed_range (u16_at file k) (half_small file k (bytes k) (bytes (k + 1))))

module _ (file : List ℕ) (block : ℕ) (m : ℤ) (i : ℕ) (bytes : (k : ℕ) → get_or file k 0 < 256) (h : Halfwords file block m i) where
  of_minimum : (plus m ≤ 32767) × (minus m ≤ 32768)
  of_minimum = halfword_range file block 22 m bytes h.minimum

  of_step : i ≤ 32767
  of_step = (halfword_range file block 23 (pos i) bytes h.step).0

  value_is : (code : ℕ) → 2 ≤ code → physical_of Scheme.Halfword file block code ≡ sum_at m i (code - 2)
  unfolding physical_of scale_fields value_scaling_linear_hw value_of
  value_is code from = rw (h.minimum, h.step, h.levels) (simp (le-leb 2 code from))

  pub tenths_near : (code : ℕ) → 2 ≤ code → code ≤ 255 → Near m i (code - 2) (number (physical_of Scheme.Halfword file block code))
  tenths_near code from to = rw (value_is code from) (near m i (code - 2) of_minimum.0 of_minimum.1 of_step (omega arith))

  pub tenths_rise : (code code' : ℕ) → 2 ≤ code → code < code' → code' ≤ 255
      → Less (number (physical_of Scheme.Halfword file block code)) (number (physical_of Scheme.Halfword file block code'))
  tenths_rise code code' from l to =
      let from' : 2 ≤ code' = omega arith in
      rw (value_is code from, value_is code' from')
      (larger m i (code - 2) (code' - 2) of_minimum.0 of_minimum.1 h.positive of_step (omega arith) (omega arith))

-- ---- a scale that is declared has a positive step

-- the logic's test of -A ≤ B
below_zero : (A B : ℕ) → B ≡ 0 → (ltb 0 (A + B) || (eqb A B && (false || eqb A 0))) ≡ true
below_zero zero B e = rw e refl
below_zero (suc A) B e = rw (lt-ltb 0 (suc A + B) (omega arith)) refl

not_above_zero : (v : Float) (n d : ℕ) → HasValue v true n d → le v (f32 0 1) ≡ true
unfolding le lt eq f32 round
not_above_zero nan n d h = absurd h
not_above_zero (inf t) n d h = absurd h
not_above_zero (fin false a e) n d h = absurd (false≢true h.0)
not_above_zero (fin true a e) n d h = below_zero (a * up e * 1) (0 * 1 * down e) (ap (λ (x : ℕ). x * down e) (zero-mul 1) ∙ zero-mul (down e))

zero_step : le (whole32 (pos 0) ⊘ f32 10 1) (f32 0 1) ≡ true
unfolding le lt eq div of_int f32 round
zero_step = refl

step_positive : (z : ℤ) → minus z ≤ 32768 → le (whole32 z ⊘ f32 10 1) (f32 0 1) ≡ false → (i : ℕ) × (z ≡ pos i) × (0 < i)
step_positive (pos zero) h e = absurd (true≢false (sym zero_step ∙ e))
step_positive (pos (suc n)) h e = (suc n, refl, omega arith)
step_positive (negsuc n) h e =
    absurd (true≢false (sym (not_above_zero (div binary32 (round binary32 true (suc n) 1) (f32 10 1)) (grid binary32 (suc n) 10) L (tenth_val true (suc n) h))
    ∙ ap (λ (x : Float). le (div binary32 x (f32 10 1)) (f32 0 1)) (sym (of_neg n)) ∙ e))

-- so the scale fields are what M-108 asks for
pub declared_halfwords : (file : List ℕ) (block : ℕ) (v : Scaling) (d : Option DeclaredLinearScale) → ((k : ℕ) → get_or file k 0 < 256) → scale_fields Scheme.Halfword file block ≡ accepted v → declared_scale v ≡ accepted d
    → (m : ℤ) × (i : ℕ) × Halfwords file block m i
unfolding scale_fields value_scaling_linear_hw declared_scale
declared_halfwords file block v d bytes read declares =
    through (value_scaling_linear_hw file block) _ v read λ s es e₁.
    through (hw_i16 file block 22) _ s es λ m em e₂.
    through (hw_i16 file block 23) _ s e₂ λ z ez e₃.
    through (hw_u16 file block 24) _ s e₃ λ n en e₄.
    let is : v ≡ Scaling.Linear (linear_hw m z n) = sym (one_value e₁) ∙ ap Scaling.Linear (sym (one_value e₄)) in
    through (linear_declared (linear_hw m z n)) _ d (subst (λ (x : Scaling). declared_scale x ≡ accepted d) is declares) λ c ec _.
    passed (le (whole32 z ⊘ f32 10 1) (f32 0 1)) _ _ c ec λ t _.
    let p = step_positive z (halfword_range file block 23 z bytes ez).1 t in
    (m, p.0, record { minimum = em; step = subst (λ (x : ℤ). hw_i16 file block 23 ≡ accepted x) p.1 ez; positive = p.2; count = n; levels = en })
