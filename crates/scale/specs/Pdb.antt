-- pdb.rs: the scale fields of the description block. Each field that is not inside is 3 with its index.
use Rattle.std.specs.Prelude.{ℕ, List, [], ◌∷◌, not, length, replicate, take, drop, Float}
use Rattle.std.specs.Float.Ieee.Scale.{finite}
use Rattle.wire.specs.Refusal.{kind, float}
use Rattle.wire.specs.Result.{Result, accepted, refused, refuse, then}
use Rattle.head.specs.Pdb.{field_at, hw_i16, hw_u16, hw_pair}
use Rattle.head.specs.declared.pdb.F32Pair.{F32Pair}
use Rattle.scale.specs.declared.pdb.Thresholds.{Thresholds}
use Rattle.scale.specs.declared.scaling.LinearScale.{LinearScale}
use Rattle.scale.specs.declared.scaling.PrecipScale.{PrecipScale}
use Rattle.scale.specs.Scaling.{linear_hw, linear_float, usable, floor_of, ceiling_of, scaled}

unfoldable pub value_scaling_linear_hw : List ℕ → ℕ → Result LinearScale
value_scaling_linear_hw file block =
    then (hw_i16 file block 22) λ m.
    then (hw_i16 file block 23) λ i.
    then (hw_u16 file block 24) λ n.
    accepted (linear_hw m i n)

-- the pair at field 22: 7 for a scale that is zero or not finite, then 8 for an offset that is not finite
unfoldable pub scale_pair : List ℕ → ℕ → Result F32Pair
scale_pair file block =
    then (hw_pair file block 22) λ p.
    refuse (not (usable p.scale)) (kind 7 (float p.scale ∷ []))
    (refuse (not (finite p.offset)) (kind 8 (float p.offset ∷ []))
    (accepted p))

unfoldable pub value_scaling_float : List ℕ → ℕ → Result LinearScale
value_scaling_float file block =
    then (scale_pair file block) λ p.
    accepted (linear_float p.scale p.offset)

-- the pair, then 27 largest, 28 leading, 29 trailing
unfoldable pub precip_family_scale : List ℕ → ℕ → Float → Result PrecipScale
precip_family_scale file block factor =
    then (scale_pair file block) λ p.
    then (hw_u16 file block 27) λ largest.
    then (hw_u16 file block 28) λ leading.
    then (hw_u16 file block 29) λ trailing.
    accepted (scaled p.scale p.offset factor (floor_of largest leading trailing) (ceiling_of largest leading trailing))

-- the thresholds: 32 bytes from field 22
unfoldable pub threshold_place : List ℕ → ℕ → Result ℕ
threshold_place file block = field_at (length file) block 22 32

abbrev pub thirty_two : List ℕ → ℕ → List ℕ
thirty_two file k = take 32 (drop k file)

-- their place and a copy of them, or the refusal of their place
unfoldable pub thresholds : List ℕ → ℕ → Result Thresholds
thresholds file block = then (threshold_place file block) λ k. accepted (record { at = k; bytes = thirty_two file k })

-- their bytes by the answer for their place; zeros where that is a refusal
abbrev pub threshold_bytes : List ℕ → Result ℕ → List ℕ
threshold_bytes file (accepted k) = thirty_two file k
threshold_bytes file (refused x) = replicate 32 0
