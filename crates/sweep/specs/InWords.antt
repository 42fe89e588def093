-- Demand 3's "make a row" in document 01's own words: "always in packet 16; in AF1F exactly if some prefix of the run lengths sums to
-- n_bins; in packet 28 exactly if every integer is from 0 to 65,535".
use Rattle.std.specs.Prelude.{ℕ, ◌<◌, List}
use Rattle.symbology.specs.declared.figures.Packet.{Packet}
use Rattle.symbology.specs.declared.figures.Packet.TheVariants.{Packet16, PacketAf1f, Packet28}
use Rattle.symbology.specs.Runs.{PrefixSum}
use Rattle.symbology.specs.Levels.{InRange}

-- a radial's data make a row of so many bins
unfoldable pub RowInWords : Packet → ℕ → List ℕ → Type 0
RowInWords Packet16 bins bytes = Unit {0}
RowInWords PacketAf1f bins bytes = PrefixSum bytes bins
RowInWords Packet28 bins bytes = (k : ℕ) → k < bins → InRange bytes k
