-- The table of sixteen levels, read at a code. Assumes nothing.
use mathlib.Core.Path.{◌≡◌, refl, sym, ap, ◌∙◌}
use mathlib.Core.Bool.{Bool, true, false, cond, ◌&&◌, and_assoc, and-true}
use mathlib.Core.List.{List, [], ◌∷◌, map}
use Prim.Native.Nat.{ℕ, ◌+◌, ◌*◌, ◌<◌}
use native.Mathlib.Nat.{zero-add}
use native.Mathlib.Omega.{arith}
use lib.IntN.{pos}
use lib.Dec.{ltb}
use lib.ListN.{get_or}
use lib.Ieee.{Float, nan, mul}
use borrow.Author.Tests.{ltb-true, ltb-false, lt-ltb, le-ltb}
use lib.Bits.{bit_or, and_le_l, and_le_r, or_lt, or_add_and}
use Rattle.wire.specs.Float.{whole32, ◌⊗◌}
use Rattle.std.specs.Prelude.{fold}
use Rattle.wire.specs.Text.{all}
use Rattle.wire.proofs.Counted.{counted}
use Rattle.scale.specs.Legacy.{has, sign_of, scale_of, level_at, unscaled_at, unscaled_levels, sixteen}
use Rattle.scale.specs.Physical.{has_level, scaled_level_of, value_of}
use Rattle.scale.specs.declared.physical.Scaling.TheVariants as Scaling

pub sixteen_at : {A : Type 0} (f : ℕ → A) (z : A) (k : ℕ) → k < 16 → get_or (map f sixteen) k z ≡ f k
sixteen_at f z k h = counted f z 16 0 k h ∙ ap f (zero-add k)

-- a level is the product, NaN too
pub nan_times : (post : Float) → nan ⊗ post ≡ nan
unfolding mul
nan_times post = refl

pub scaled_at : (t : List ℕ) (at : ℕ) (post : Float) (k : ℕ) → unscaled_at t at k ⊗ post ≡ level_at t at post k
unfolding unscaled_at level_at
scaled_at t at post k = go (has (get_or t (at + 2 * k) 0) 0x80)
  where
    x : Float
    x = whole32 (pos (get_or t (at + 2 * k + 1) 0)) ⊗ sign_of (get_or t (at + 2 * k) 0) ⊗ scale_of (get_or t (at + 2 * k) 0)

    go : (b : Bool) → cond b nan x ⊗ post ≡ cond b nan (x ⊗ post)
    go true = nan_times post
    go false = refl

-- a table of the levels values codes as the legacy scheme does
pub levels_value : (t : List ℕ) (at : ℕ) (post : Float) {table : List Float} → table ≡ unscaled_levels t at
    → scaled_level_of table post ≡ value_of (Scaling.Legacy at post) t
unfolding unscaled_levels value_of
levels_value t at post e = ap (λ (l : List Float). scaled_level_of l post) e ∙ λ i code. go code (ltb code 16) refl i
  where
    go : (code : ℕ) (b : Bool) → ltb code 16 ≡ b
        → cond b (get_or (map (unscaled_at t at) sixteen) code nan) nan ⊗ post ≡ cond b (level_at t at post code) nan
    go code true u = ap (λ (x : Float). x ⊗ post) (sixteen_at (unscaled_at t at) nan code (ltb-true code 16 u)) ∙ scaled_at t at post code
    go code false u = nan_times post

-- ---- all codes at once

-- two codes have levels exactly if their bits put together have
pub both_have : (a b : ℕ) → has_level (bit_or a b) ≡ has_level a && has_level b
both_have a b = go (ltb a 16) refl (ltb b 16) refl
  where
    go : (p : Bool) → ltb a 16 ≡ p → (q : Bool) → ltb b 16 ≡ q → ltb (bit_or a b) 16 ≡ p && q
    go true s true t = lt-ltb (bit_or a b) 16 (or_lt 4 a b (ltb-true a 16 s) (ltb-true b 16 t))
    go true s false t = le-ltb (bit_or a b) 16 (omega (arith, ltb-false b 16 t, or_add_and a b, and_le_l a b))
    go false s q t = le-ltb (bit_or a b) 16 (omega (arith, ltb-false a 16 s, or_add_and a b, and_le_r a b))

pub together : (bits : ℕ) (cs : List ℕ) → has_level (fold bit_or bits cs) ≡ (has_level bits && all has_level cs)
together bits [] = sym (and-true (has_level bits))
together bits (x ∷ cs) =
    together (bit_or bits x) cs
    ∙ ap (λ (b : Bool). b && all has_level cs) (both_have bits x)
    ∙ and_assoc (has_level bits) (has_level x) (all has_level cs)
