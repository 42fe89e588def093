-- What the entries answer, and what they leave in lent buffers.
use Rattle.std.specs.Prelude.{◌≡◌, ℕ, zero, suc, ◌*◌, Bool, true, false, not, List, [], ◌∷◌, ◌++◌, map, length, replicate, nat_lt, slice_index, Option, Some, None, Float}
use Rattle.std.specs.Prelude as Std
use Rattle.std.specs.Float.Ieee.{le}
use Rattle.wire.specs.Float.{f32}
use Rattle.wire.specs.Refusal.{kind, float, buffer}
use Rattle.wire.specs.Result.{Result, accepted, answer, refuse, then, lent}
use Rattle.wire.specs.Reading.{run, gaps, Given}
use Rattle.wire.specs.declared.error.Buffer.TheVariants as Buffer
use Rattle.wire.specs.declared.error.Level3DecodeError.{Level3DecodeError}
use Rattle.symbology.specs.declared.radials.PacketHeader.{PacketHeader}
use Rattle.symbology.specs.Symbology.{Sweep, Header, symbology}
use Rattle.symbology.specs.declared.figures.Figures.{Figures}
use Rattle.symbology.specs.declared.figures.Packet.{Packet}
use Rattle.symbology.specs.declared.figures.Packet.TheVariants.{Packet16, PacketAf1f, Packet28}
use Rattle.symbology.specs.declared.figures.Terms.{Terms}
use Rattle.symbology.specs.declared.figures.Packets.{Packets}

-- the answer of the packet header
abbrev pub header_of : Std.Result PacketHeader Level3DecodeError → Result Header
header_of r = then (answer r) λ h. accepted (record { radials = h.n_radials; bins = h.n_bins; range = h.range_scale })

-- rows one after the other
unfoldable pub joined : List (List ℕ) → List ℕ
joined [] = []
joined (row ∷ rows) = row ++ joined rows

-- What an accepted body's picture is: its figures, the centres, the codes by row.
pub record Picture : Type 0 where
  pub figures : Figures
  pub azimuths : List Float
  pub codes : List ℕ

-- the reading of a body
unfoldable pub picture_of : List ℕ → Result Picture
picture_of body =
    then (run symbology body 0) λ g.
    accepted (record { figures = g.value.figures; azimuths = g.value.azimuths; codes = joined g.rows })

-- the packets that a group of schemes works on
unfoldable pub asked : Packets → Packet → Bool
asked packets PacketAf1f = true
asked Packets.Af1fAlone Packet16 = false
asked (Packets.Radial step) Packet16 = true
asked Packets.Any Packet16 = true
asked Packets.Af1fAlone Packet28 = false
asked (Packets.Radial step) Packet28 = false
asked Packets.Any Packet28 = true

abbrev pub too_few : Option ℕ → ℕ → Bool
too_few None n = false
too_few (Some k) n = nat_lt k n

-- 36, of the first buffer that is too short: azimuths (`na` places), codes (`nc`), physical values
unfoldable pub room_in : Terms → ℕ → ℕ → ℕ → ℕ → Result (Unit {0})
room_in t na nc radials cells =
    refuse (nat_lt na radials) (kind 36 (buffer Buffer.Azimuths ∷ []))
    (refuse (nat_lt nc cells) (kind 36 (buffer Buffer.Codes ∷ []))
    (refuse (too_few t.physical cells) (kind 36 (buffer Buffer.Physical ∷ []))
    (accepted tt)))

-- 9: the step of halfword or float is at or below 0, which a NaN is not
abbrev pub step_of : Packets → Result (Unit {0})
step_of Packets.Af1fAlone = accepted tt
step_of (Packets.Radial step) = refuse (le step (f32 0 1)) (kind 9 (float step ∷ [])) (accepted tt)
step_of Packets.Any = accepted tt

-- What stands between a body's reading and its picture: 10, 9, 36. No row is looked at.
unfoldable pub admit : Terms → ℕ → ℕ → Figures → Result (Unit {0})
admit t na nc f =
    refuse (not (asked t.packets f.packet)) (kind 10 [])
    (then (step_of t.packets) λ _.
    room_in t na nc f.n_radials (f.n_radials * f.n_bins))

-- the reading of a body on terms
unfoldable pub decode_for : Terms → List ℕ → ℕ → ℕ → Result Picture
decode_for t body na nc =
    then (picture_of body) λ p.
    then (admit t na nc p.figures) λ _.
    accepted p

-- every packet, and no more than the two buffers
abbrev pub any_terms : Terms
any_terms = record { packets = Packets.Any; physical = None }

unfoldable pub decode_of : List ℕ → ℕ → ℕ → Result Picture
decode_of = decode_for any_terms

abbrev pub figures_in : Result Picture → Result Figures
figures_in r = then r λ p. accepted p.figures

-- A reading d of a body, by the lengths of two lent buffers that held az and cs: the answer, and what they hold after it.
pub record Decodes (d : ℕ → ℕ → Result Picture) (az az' : List Float) (cs cs' : List ℕ) (result : Std.Result Figures Level3DecodeError) : Type 0 where
  pub answered : answer result ≡ figures_in (d (length az) (length cs))
  pub azimuths : az' ≡ lent (d (length az) (length cs)) (λ p. p.azimuths) az
  pub codes : cs' ≡ lent (d (length az) (length cs)) (λ p. p.codes) cs

-- a reading whose figures pass a test
unfoldable pub passing : (Figures → Result (Unit {0})) → Result (Given Sweep) → Result (Given Sweep)
passing test reading =
    then reading λ g.
    then (test g.value.figures) λ _.
    accepted g

-- ---- the reading with gaps

-- The picture with gaps, and a mark for each radial: 1 where its data make no row, else 0.
pub record GapPicture : Type 0 where
  pub picture : Picture
  pub marks : List ℕ

-- of a row as the reading with gaps gives it: its mark
abbrev pub mark_of : List ℕ → ℕ
mark_of row = slice_index row 0

-- and its codes; a gap has n_bins codes 0
unfoldable pub shown : ℕ → List ℕ → List ℕ
shown bins [] = []
shown bins (zero ∷ codes) = codes
shown bins (suc mark ∷ codes) = replicate bins 0

-- the picture of a sweep with these rows and gaps
abbrev pub picture_with : Sweep → List (List ℕ) → GapPicture
picture_with s rows =
    record {
      picture = record { figures = s.figures; azimuths = s.azimuths; codes = joined (map (shown s.figures.n_bins) rows) };
      marks = map mark_of rows;
    }

unfoldable pub gap_picture_of : List ℕ → Result GapPicture
gap_picture_of body =
    then (run (gaps symbology) body 0) λ g.
    accepted (picture_with g.value g.rows)

-- a picture on terms; 36 of the mark buffer (`nm` places) is last
unfoldable pub gaps_on_terms : Terms → Result GapPicture → ℕ → ℕ → ℕ → Result GapPicture
gaps_on_terms t picture na nc nm =
    then picture λ p.
    then (admit t na nc p.picture.figures) λ _.
    refuse (nat_lt nm p.picture.figures.n_radials) (kind 36 (buffer Buffer.Marks ∷ []))
    (accepted p)

unfoldable pub gap_decode_for : Terms → List ℕ → ℕ → ℕ → ℕ → Result GapPicture
gap_decode_for t body na nc nm = gaps_on_terms t (gap_picture_of body) na nc nm

abbrev pub gap_figures_in : Result GapPicture → Result Figures
gap_figures_in r = then r λ p. accepted p.picture.figures

-- A reading d with gaps, by the lengths of three lent buffers that held az, cs and ms: the answer, and what they hold after it.
pub record DecodesWithGaps (d : ℕ → ℕ → ℕ → Result GapPicture) (az az' : List Float) (cs cs' ms ms' : List ℕ) (result : Std.Result Figures Level3DecodeError) : Type 0 where
  pub answered : answer result ≡ gap_figures_in (d (length az) (length cs) (length ms))
  pub azimuths : az' ≡ lent (d (length az) (length cs) (length ms)) (λ p. p.picture.azimuths) az
  pub codes : cs' ≡ lent (d (length az) (length cs) (length ms)) (λ p. p.picture.codes) cs
  pub marks : ms' ≡ lent (d (length az) (length cs) (length ms)) (λ p. p.marks) ms
