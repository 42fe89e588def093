-- The header and a radial of the original as the code has them. No public contract cites this file.
use Rattle.std.specs.Prelude.{ℕ, ◌+◌, ◌*◌, List}
use Rattle.std.proofs.Math.Seq.{slice}
use Rattle.wire.specs.Bytes.{u16_at}
use Rattle.symbology.specs.Symbology.{Beam, Header}
use Rattle.symbology.specs.declared.radials.PacketHeader.{PacketHeader}

abbrev pub head_in : PacketHeader → Header
head_in h = record { radials = h.n_radials; bins = h.n_bins; range = h.range_scale }

-- the radial at a place: its six bytes, and its data
abbrev pub beam_at : List ℕ → ℕ → Beam
beam_at s p = record { count = u16_at s p; start = u16_at s (p + 2); width = u16_at s (p + 4) }

abbrev pub data_at : List ℕ → ℕ → List ℕ
data_at s p = slice (p + 6) (p + 6 + u16_at s p * 2) s
