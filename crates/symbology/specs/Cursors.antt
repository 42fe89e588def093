-- A place in the cells of an AF1F row. No public contract cites this file.
use Rattle.std.specs.Prelude.{ℕ, List, ◌++◌, replicate}
use Rattle.symbology.specs.Rows.{cells}

-- so many cells of a colour, then those of the runs
abbrev pub ahead : ℕ → ℕ → List ℕ → List ℕ
ahead left colour runs = replicate left colour ++ cells runs
