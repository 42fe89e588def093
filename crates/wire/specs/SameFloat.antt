-- Two floats are equal: "if their bits are or both are NaN". The logic has one NaN, so this is its own equality; -0.0 and 0.0 differ.
use Rattle.std.specs.Prelude.{Bool, true, false, ◌&&◌, ℤ, pos, negsuc, eqb, Float}
use Rattle.std.specs.Float.{nan, inf, fin}

abbrev pub same_int : ℤ → ℤ → Bool
same_int (pos m) (pos n) = eqb m n
same_int (pos m) (negsuc n) = false
same_int (negsuc m) (pos n) = false
same_int (negsuc m) (negsuc n) = eqb m n

abbrev pub same_sign : Bool → Bool → Bool
same_sign true b = b
same_sign false true = false
same_sign false false = true

unfoldable pub same_float : Float → Float → Bool
same_float nan nan = true
same_float nan (inf t) = false
same_float nan (fin t n f) = false
same_float (inf s) nan = false
same_float (inf s) (inf t) = same_sign s t
same_float (inf s) (fin t n f) = false
same_float (fin s m e) nan = false
same_float (fin s m e) (inf t) = false
same_float (fin s m e) (fin t n f) = same_sign s t && (eqb m n && same_int e f)
