-- Document 02, M-109: the packet 16 body of an AF1F body. A reading made of symbology's pieces says what is taken from the original and in
-- which order it is refused; from what it gives the written body is put together as a list.
use Rattle.std.specs.Prelude.{ℕ, zero, suc, ◌+◌, ◌-◌, ◌/◌, ◌%◌, List, [], ◌∷◌, ◌++◌, not, length, replicate, ltb, eqb}
use Rattle.wire.specs.Bytes.{u32_at, signed}
use Rattle.wire.specs.Refusal.{kind, nat, whole, buffer}
use Rattle.wire.specs.Result.{Result, accepted, refuse, then}
use Rattle.wire.specs.Reading.{Flat, give, ◌>>=◌, ◌>>◌, remaining, u16, radial_data, refuse_if, run, Given}
use Rattle.wire.specs.declared.error.Buffer.TheVariants as Buffer
use Rattle.symbology.specs.Rows.{row_of}
use Rattle.symbology.specs.Symbology.{Beam, Header, covered, counts, frame, with_code}
use Rattle.symbology.specs.declared.figures.Packet.TheVariants.{PacketAf1f}

-- ---- what is read

-- 42, of the bins alone: a count of one more is not a halfword
abbrev pub short_rows : Header → Flat Header
short_rows h = do
  refuse_if (eqb h.bins 65535) (kind 42 [])
  give h

-- from byte 18 on: 14 for any code but AF1F; 12; 15, 16, and 17 for a first bin that is not 0; 42
abbrev pub run_header : ℕ → Flat Header
run_header code = do
  refuse_if (not (eqb code 0xAF1F)) (kind 14 (whole (signed 32768 code) ∷ []))
  avail ← remaining
  refuse_if (ltb avail 12) (kind 12 (nat (18 + avail) ∷ []))
  first ← u16
  h ← counts PacketAf1f first
  short_rows h

-- bytes 0-29: 12 and 13 before these
unfoldable pub export_head : Flat Header
export_head = with_code run_header

-- a radial as symbology has it, 19 to 22, with its six bytes in place of its centre
unfoldable pub export_radial : ℕ → ℕ → ℕ → Flat Beam
export_radial radials bins r = do
  beam ← frame PacketAf1f radials bins r
  radial_data (covered PacketAf1f beam.count) (row_of PacketAf1f bins r)
  give beam

-- n radials from radial r on
unfoldable pub export_walk : ℕ → ℕ → ℕ → ℕ → Flat (List Beam)
export_walk radials bins zero r = give []
export_walk radials bins (suc n) r = do
  first ← export_radial radials bins r
  beams ← export_walk radials bins n (suc r)
  give (first ∷ beams)

pub record Taken : Type 0 where
  pub head : Header
  pub beams : List Beam

unfoldable pub exportable : Flat Taken
exportable = do
  h ← export_head
  beams ← export_walk h.radials h.bins h.radials 0
  give (record { head = h; beams = beams })

-- ---- what is written

-- a halfword and a word, the most significant byte first
abbrev pub two : ℕ → List ℕ
two n = n / 256 ∷ n % 256 ∷ []

abbrev pub four : ℕ → List ℕ
four n = two (n / 65536) ++ two (n % 65536)

-- a radial's count: n_bins, or n_bins + 1 where n_bins is odd
abbrev pub count_for : ℕ → ℕ
count_for bins = bins + bins % 2

-- a radial: count, start, width, the row's codes, and a zero byte last where n_bins is odd
unfoldable pub beam_bytes : ℕ → Beam → List ℕ → List ℕ
beam_bytes bins beam row = two (count_for bins) ++ two beam.start ++ two beam.width ++ (row ++ replicate (bins % 2) 0)

unfoldable pub beams_bytes : ℕ → List Beam → List (List ℕ) → List ℕ
beams_bytes bins [] rows = []
beams_bytes bins (beam ∷ beams) [] = []
beams_bytes bins (beam ∷ beams) (row ∷ rows) = beam_bytes bins beam row ++ beams_bytes bins beams rows

-- bytes 0-29 of a body of `size` bytes: -1, 1; the whole length, one layer, -1, the length less 16; code 16, first bin 0, bins, the
-- original's bytes 22-25 (`kept`), range scale, radials
unfoldable pub head_bytes : ℕ → ℕ → Header → List ℕ
head_bytes size kept h =
    two 0xFFFF ++ two 1 ++ four size ++ two 1 ++ two 0xFFFF ++ four (size - 16)
    ++ two 16 ++ two 0 ++ two h.bins ++ four kept ++ two h.range ++ two h.radials

unfoldable pub packet16_body : ℕ → Header → List Beam → List (List ℕ) → List ℕ
packet16_body kept h beams rows = head_bytes (30 + length (beams_bytes h.bins beams rows)) kept h ++ beams_bytes h.bins beams rows

unfoldable pub body_of : List ℕ → Given Taken → List ℕ
body_of body g = packet16_body (u32_at body 22) g.value.head g.value.beams g.rows

-- ---- the entry: the written body, for an output of `room` places

unfoldable pub export_of : List ℕ → ℕ → Result (List ℕ)
export_of body room =
    then (run exportable body 0) λ g.
    refuse (ltb room (length (body_of body g))) (kind 36 (buffer Buffer.Output ∷ []))
    (accepted (body_of body g))

abbrev pub length_in : Result (List ℕ) → Result ℕ
length_in r = then r λ o. accepted (length o)
