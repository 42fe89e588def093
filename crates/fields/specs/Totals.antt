-- A field's total (document 02, M-104), over the codes of an accepted sweep with the precipitation scheme.
use Rattle.std.specs.Prelude.{Bool, cond, ◌&&◌, List, [], ◌∷◌, map, ℕ, ◌+◌, ◌*◌, ◌-◌, eqb, leb, ltb, take, drop, Option, Some, None}
use Rattle.scale.specs.Scaling.{valid}
use Rattle.fields.specs.declared.plan.Record.{Record}
use Rattle.fields.specs.declared.plan.Record.TheVariants.{Field, Strip, Malformed}
use Rattle.fields.specs.declared.plan.Entry.{Entry}

-- what totals see of a sweep: its codes, row after row, the gates of a row, and the floor and the ceiling of the valid codes
pub record Grid : Type 0 where
  pub codes : List ℕ
  pub bins : ℕ
  pub floor : ℕ
  pub ceiling : Option ℕ

abbrev pub grid : List ℕ → ℕ → ℕ → Option ℕ → Grid
grid codes bins floor ceiling = record { codes = codes; bins = bins; floor = floor; ceiling = ceiling }

-- what a cell's code counts: code - floor, for a valid code
unfoldable pub counts : ℕ → Option ℕ → ℕ → ℕ
counts floor ceiling code = cond (valid floor ceiling code) (code - floor) 0

-- the highest code that may be valid: a code is a halfword
abbrev pub top_of : Option ℕ → ℕ
top_of (Some top) = top
top_of None = 65535

unfoldable pub sum : List ℕ → ℕ
sum [] = 0
sum (x ∷ xs) = x + sum xs

-- the most that a strip can count: 65,535 cells and a weight of 65,535, over codes of 16 bits
abbrev pub most : ℕ
most = 65535 * 4294836225

-- the codes of a strip's cells
abbrev pub cells_of : Grid → ℕ → ℕ → ℕ → List ℕ
cells_of p radial gate count = take count (drop (radial * p.bins + gate) p.codes)

-- a strip's total: weight × (code - floor), added over its cells
unfoldable pub strip_total : Grid → ℕ → ℕ → ℕ → ℕ → ℕ
strip_total p radial gate count weight = sum (map (λ code. weight * counts p.floor p.ceiling code) (cells_of p radial gate count))

-- the total of the strips that come before the next field
unfoldable pub own_total : Grid → List Record → ℕ
own_total p [] = 0
own_total p (Field n ∷ rest) = 0
own_total p (Strip r g c w ∷ rest) = strip_total p r g c w + own_total p rest
own_total p (Malformed ∷ rest) = own_total p rest

-- one total for each field, in plan order: its strips are those between it and the next field
unfoldable pub totals : Grid → List Record → List ℕ
totals p [] = []
totals p (Field n ∷ rest) = own_total p rest ∷ totals p rest
totals p (Strip r g c w ∷ rest) = totals p rest
totals p (Malformed ∷ rest) = totals p rest

-- the records of a plan's entries
abbrev pub items : List Entry → List Record
items = map (λ e. e.item)

-- the summed weights of a field's strips over the cell at a radial and a gate
abbrev pub covers : ℕ → ℕ → ℕ → ℕ → ℕ → Bool
covers radial gate r g c = eqb r radial && (leb g gate && ltb gate (g + c))

unfoldable pub own_weight : ℕ → ℕ → List Record → ℕ
own_weight radial gate [] = 0
own_weight radial gate (Field n ∷ rest) = 0
own_weight radial gate (Strip r g c w ∷ rest) = cond (covers radial gate r g c) w 0 + own_weight radial gate rest
own_weight radial gate (Malformed ∷ rest) = own_weight radial gate rest

-- for each field
unfoldable pub weights : ℕ → ℕ → List Record → List ℕ
weights radial gate [] = []
weights radial gate (Field n ∷ rest) = own_weight radial gate rest ∷ weights radial gate rest
weights radial gate (Strip r g c w ∷ rest) = weights radial gate rest
weights radial gate (Malformed ∷ rest) = weights radial gate rest
