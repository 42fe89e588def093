-- What the code of the tests knows of a body that symbology accepts.
use Rattle.std.specs.Prelude.{ℕ, ◌≤◌, ◌≢◌, List, length}
use Rattle.symbology.specs.Places.{place}
use Rattle.symbology.specs.declared.figures.Figures.{Figures}
use Rattle.symbology.specs.declared.figures.Packet.TheVariants.{Packet28}

-- in packets 16 and AF1F the last radial ends inside the body
abbrev pub RadialsInside : Figures → List ℕ → Type 0
RadialsInside f b = f.packet ≢ Packet28 → place f.packet b f.n_radials ≤ length b
