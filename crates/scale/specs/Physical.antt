-- The physical value of a code under a scheme and the file's bytes: `physical_of`. A value is minimum + (code - floor) × step.
use Rattle.std.specs.Prelude.{ℕ, ◌+◌, ◌-◌, ◌≤◌, ◌<◌, ◌≡◌, List, [], ◌∷◌, map, ◌++◌, Bool, cond, length, get_or, drop, pos, ltb, eqb, Option, Some, None, Float}
use Rattle.std.specs.Float.{nan}
use Rattle.wire.specs.Float.{whole32, ◌⊕◌, ◌⊗◌}
use Rattle.wire.specs.Refusal.{kind, buffer}
use Rattle.wire.specs.Result.{Result, accepted, refused, refuse, then}
use Rattle.wire.specs.declared.error.Buffer.TheVariants as Buffer
use Rattle.scale.specs.declared.scaling.PrecipScale.{PrecipScale}
use Rattle.scale.specs.declared.physical.Scheme.{Scheme}
use Rattle.scale.specs.declared.physical.Scaling.{Scaling}
use Rattle.scale.specs.declared.scaling.DeclaredLinearScale.{DeclaredLinearScale}
use Rattle.scale.specs.Scaling.{valid, linear_declared, precip_declared}
use Rattle.scale.specs.Legacy.{level_at}
use Rattle.scale.specs.Pdb.{value_scaling_linear_hw, value_scaling_float, precip_family_scale, threshold_place}

-- the scale fields of a scheme
unfoldable pub scale_fields : Scheme → List ℕ → ℕ → Result Scaling
scale_fields Scheme.Halfword file block = then (value_scaling_linear_hw file block) λ s. accepted (Scaling.Linear s)
scale_fields Scheme.Float file block = then (value_scaling_float file block) λ s. accepted (Scaling.Linear s)
scale_fields (Scheme.Precipitation factor) file block = then (precip_family_scale file block factor) λ p. accepted (Scaling.Precip p)
scale_fields (Scheme.Legacy post) file block = then (threshold_place file block) λ k. accepted (Scaling.Legacy k post)
scale_fields Scheme.Class file block = accepted Scaling.Class

-- the scale that is declared; legacy and class declare none
unfoldable pub declared_scale : Scaling → Result (Option DeclaredLinearScale)
declared_scale (Scaling.Linear s) = then (linear_declared s) λ d. accepted (Some d)
declared_scale (Scaling.Precip p) = accepted (Some (precip_declared p))
declared_scale (Scaling.Legacy k post) = accepted None
declared_scale Scaling.Class = accepted None

-- linear where the code is valid, and NaN where it is not
abbrev pub value_in : Float → Float → ℕ → Option ℕ → ℕ → Float
value_in m step floor ceiling code = cond (valid floor ceiling code) (m ⊕ whole32 (pos (code - floor)) ⊗ step) nan

-- from the floor on, and from the floor to the top
abbrev pub open_value : Float → Float → ℕ → ℕ → Float
open_value m step floor = value_in m step floor None

abbrev pub capped_value : Float → Float → ℕ → ℕ → ℕ → Float
capped_value m step floor top = value_in m step floor (Some top)

-- precipitation
abbrev pub precip_value : PrecipScale → ℕ → Float
precip_value p = value_in p.value_min p.value_increment p.floor p.ceiling

-- class: 0 is NaN
abbrev pub class_value : ℕ → Float
class_value code = cond (eqb code 0) nan (whole32 (pos code))

-- the level of a code, of sixteen; there is none for a larger code
abbrev pub has_level : ℕ → Bool
has_level code = ltb code 16

abbrev pub level_of : List Float → ℕ → Float
level_of levels code = cond (has_level code) (get_or levels code nan) nan

-- the same of levels that are still to be multiplied
abbrev pub scaled_level_of : List Float → Float → ℕ → Float
scaled_level_of unscaled post code = level_of unscaled code ⊗ post

-- the value of a code once the scale fields are read. Halfword and float: codes below 2 are NaN
unfoldable pub value_of : Scaling → List ℕ → ℕ → Float
value_of (Scaling.Linear s) file code = open_value s.value_min s.value_increment 2 code
value_of (Scaling.Precip p) file code = precip_value p code
value_of (Scaling.Legacy k post) file code = cond (has_level code) (level_at file k post code) nan
value_of Scaling.Class file code = class_value code

abbrev pub valued : Result Scaling → List ℕ → ℕ → Float
valued (accepted v) file code = value_of v file code
valued (refused x) file code = nan

-- the physical value of a code
unfoldable pub physical_of : Scheme → List ℕ → ℕ → ℕ → Float
physical_of scheme file block = valued (scale_fields scheme file block) file

-- a buffer whose front holds the values of the codes
abbrev pub filled : (ℕ → Float) → List ℕ → List Float → List Float
filled value codes old = map value codes ++ drop (length codes) old

-- what a function may answer at each of the codes is f of it
abbrev pub Gives : (ℕ → Float → Type 0) → (ℕ → Float) → List ℕ → Type 0
Gives post f codes = (k : ℕ) (r : Float) → k < length codes → post (get_or codes k 0) r → r ≡ f (get_or codes k 0)

-- the thresholds of a legacy scaling stand inside the file
abbrev pub Ready : Scaling → List ℕ → Type 0
Ready (Scaling.Linear s) file = Unit {0}
Ready (Scaling.Precip p) file = Unit {0}
Ready (Scaling.Legacy k post) file = k + 32 ≤ length file
Ready Scaling.Class file = Unit {0}

-- the physical values of the codes, or a refusal: of the scale fields, then 36 for a buffer of fewer than as many places
unfoldable pub fill_of : Scheme → List ℕ → ℕ → List ℕ → ℕ → Result (List Float)
fill_of scheme file block codes room =
    then (scale_fields scheme file block) λ _.
    refuse (ltb room (length codes)) (kind 36 (buffer Buffer.Physical ∷ []))
    (accepted (map (physical_of scheme file block) codes))
