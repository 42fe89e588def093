-- pdb.rs and mod.rs: scales out of numbers, and the scale that a product declares. Each float operation rounds once, in the written order.
use Rattle.std.specs.Prelude.{ℕ, zero, suc, ◌+◌, ◌-◌, [], ◌∷◌, Bool, not, ◌&&◌, cond, ℤ, pos, leb, eqb, Option, Some, None, Float}
use Rattle.std.specs.Float.Ieee.{neg, eq, le}
use Rattle.std.specs.Float.Ieee.Scale.{finite}
use Rattle.wire.specs.Float.{f32, whole32, ◌⊕◌, ◌⊖◌, ◌⊗◌, ◌⊘◌}
use Rattle.wire.specs.Refusal.{kind, float}
use Rattle.wire.specs.Result.{Result, accepted, refuse}
use Rattle.scale.specs.declared.scaling.LinearScale.{LinearScale}
use Rattle.scale.specs.declared.scaling.PrecipScale.{PrecipScale}
use Rattle.scale.specs.declared.scaling.DeclaredLinearScale.{DeclaredLinearScale}

-- neither zero, of either sign, nor non-finite
abbrev pub usable : Float → Bool
usable scale = finite scale && not (eq scale (f32 0 1))

-- halfwords 22 and 23 in tenths, 24 the level count
abbrev pub linear_hw : ℤ → ℤ → ℕ → LinearScale
linear_hw m i n = record { value_min = whole32 m ⊘ f32 10 1; value_increment = whole32 i ⊘ f32 10 1; n_levels = n }

-- minimum (2 - offset) / scale, step 1 / scale, 254 levels
abbrev pub linear_float : Float → Float → LinearScale
linear_float scale offset = record { value_min = (f32 2 1 ⊖ offset) ⊘ scale; value_increment = f32 1 1 ⊘ scale; n_levels = 254 }

-- both flags are 0 to 8, and the largest value is not 0. The flags are read unsigned: a negative one is above 8
abbrev pub plausible : ℕ → ℕ → ℕ → Bool
plausible largest leading trailing = leb leading 8 && leb trailing 8 && not (eqb largest 0)

-- the lowest valid code
abbrev pub floor_of : ℕ → ℕ → ℕ → ℕ
floor_of largest leading trailing = cond (plausible largest leading trailing) leading 1

-- the highest valid code: `-` of ℕ stops at 0
abbrev pub ceiling_of : ℕ → ℕ → ℕ → Option ℕ
ceiling_of largest leading trailing = cond (plausible largest leading trailing) (Some (largest - trailing)) None

-- a code is valid from the floor up to the ceiling, where there is one: it has a value, counts in totals and is a level
abbrev pub valid : ℕ → Option ℕ → ℕ → Bool
valid floor (Some top) code = leb floor code && leb code top
valid floor None code = leb floor code

-- step factor / scale, zero point (-offset × factor) / scale, minimum floor × step + zero point
abbrev pub scaled : Float → Float → Float → ℕ → Option ℕ → PrecipScale
scaled scale offset factor floor ceiling = record {
  value_min = whole32 (pos floor) ⊗ (factor ⊘ scale) ⊕ neg offset ⊗ factor ⊘ scale;
  value_increment = factor ⊘ scale;
  floor = floor;
  ceiling = ceiling;
}

-- how many of the first n codes, 0 to n - 1, pass a test
unfoldable pub count : (ℕ → Bool) → ℕ → ℕ
count p zero = 0
count p (suc n) = count p n + cond (p n) 1 0

-- the level count of the precipitation family: how many of the codes 0 to 65,535 are valid
unfoldable pub level_count : ℕ → Option ℕ → ℕ
level_count floor ceiling = count (valid floor ceiling) 65536

-- halfword and float: floor 2; 9 where the step is at or below 0, which a NaN is not
abbrev pub linear_declared : LinearScale → Result DeclaredLinearScale
linear_declared s =
    refuse (le s.value_increment (f32 0 1)) (kind 9 (float s.value_increment ∷ []))
    (accepted (record { value_min = s.value_min; value_increment = s.value_increment; n_levels = s.n_levels; data_floor_code = 2 }))

abbrev pub precip_declared : PrecipScale → DeclaredLinearScale
precip_declared p = record {
  value_min = p.value_min;
  value_increment = p.value_increment;
  n_levels = level_count p.floor p.ceiling;
  data_floor_code = p.floor;
}
