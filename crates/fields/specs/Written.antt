-- A plan written from its records: what a strip that is cut, or moved, changes in the file.
use Rattle.std.specs.Prelude.{List, [], ◌∷◌, ℕ, ◌/◌, ◌%◌}
use Rattle.fields.specs.declared.plan.Record.{Record}
use Rattle.fields.specs.declared.plan.Record.TheVariants.{Field, Strip, Malformed}

abbrev pub half : ℕ → List ℕ → List ℕ
half n rest = n / 256 ∷ n % 256 ∷ rest

-- a record's bytes, before others
abbrev pub bytes_of : Record → List ℕ → List ℕ
bytes_of (Field n) rest = 1 ∷ 0 ∷ 2 ∷ half n rest
bytes_of (Strip r g c w) rest = 2 ∷ 0 ∷ 8 ∷ half r (half g (half c (half w rest)))
bytes_of Malformed rest = rest

unfoldable pub written : List Record → List ℕ
written [] = []
written (x ∷ xs) = bytes_of x (written xs)
