-- The levels that value a legacy code, worked out in the file's own bytes, and those of the copy that `threshold_data` makes (M-103).
use Rattle.std.specs.Prelude.{ℕ, List, map, Float}
use Rattle.wire.specs.Result.{Result, accepted, then}
use Rattle.scale.specs.Legacy.{levels_of, sixteen}
use Rattle.scale.specs.Pdb.{threshold_place, threshold_bytes}
use Rattle.scale.specs.Physical.{scale_fields, value_of}
use Rattle.scale.specs.declared.physical.Scheme.TheVariants as Scheme

-- the values of the codes 0 to 15 once the scale fields are read, as the sweep reading has them, or the refusal of the scale fields
unfoldable pub levels_in_file : List ℕ → ℕ → Float → Result (List Float)
levels_in_file file block post = then (scale_fields (Scheme.Legacy post) file block) λ v. accepted (map (value_of v file) sixteen)

-- the sixteen levels of the 32 bytes that `threshold_data` gives, or its refusal
unfoldable pub levels_of_copy : List ℕ → ℕ → Float → Result (List Float)
levels_of_copy file block post = then (threshold_place file block) λ _. accepted (levels_of (threshold_bytes file (threshold_place file block)) 0 post)
