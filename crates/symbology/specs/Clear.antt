-- The clear scan (document 02, M-107): a body of packet 16 or AF1F with no radials. What it gives, by which of its bytes.
use Rattle.std.specs.Prelude.{◌≡◌, ℕ, ◌<◌, ◌≤◌, not, ◌≢◌, ◌⊎◌, List, [], ◌∷◌, length, ◌==◌, slice_index}
use Rattle.wire.specs.Bytes.{u16_at}
use Rattle.wire.specs.Refusal.{kind, nat}
use Rattle.wire.specs.Result.{Result, accepted, refuse}
use Rattle.symbology.specs.Answers.{Picture, GapPicture}
use Rattle.symbology.specs.Walk.{first_of}
use Rattle.symbology.specs.declared.figures.Packet.{Packet}
use Rattle.symbology.specs.declared.figures.Packet.TheVariants.{Packet16, PacketAf1f, Packet28}
use Rattle.symbology.specs.declared.figures.Geometry.TheVariants.{RangeScale}

abbrev pub code_of : Packet → ℕ
code_of Packet16 = 16
code_of PacketAf1f = 0xAF1F
code_of Packet28 = 28

-- b is a body of such a packet, long enough for the packet's header, that says 0 radials
pub record ClearScan (packet : Packet) (b : List ℕ) : Type 0 where
  pub old : packet ≢ Packet28
  pub long : 30 ≤ length b
  pub divider : u16_at b 0 ≡ 0xFFFF
  pub block : u16_at b 2 ≡ 1
  pub code : u16_at b 16 ≡ code_of packet
  pub no_radials_lem : u16_at b 28 ≡ 0

-- a sweep of no rows
abbrev pub empty_picture : Packet → ℕ → ℕ → Picture
empty_picture packet bins range =
    record { figures = record { packet = packet; n_radials = 0; n_bins = bins; geometry = RangeScale range }; azimuths = []; codes = [] }

-- its answer: 15 for bins 0, 17 for a first bin of packet 16 that is not 0, else a sweep of no rows
abbrev pub clear_answer : Packet → List ℕ → Result Picture
clear_answer packet b =
    refuse (u16_at b 20 == 0) (kind 15 (nat 0 ∷ nat (u16_at b 20) ∷ []))
    (refuse (not (first_of packet b == 0)) (kind 17 (nat (first_of packet b) ∷ []))
    (accepted (empty_picture packet (u16_at b 20) (u16_at b 26))))

-- with gaps it is the same, and has no marks
abbrev pub unmarked : Picture → GapPicture
unmarked p = record { picture = p; marks = [] }

-- bytes 18-19 are read in packet 16 alone
abbrev pub FirstBinByte : Packet → ℕ → Type 0
FirstBinByte Packet16 i = (18 ≤ i) × (i < 20)
FirstBinByte PacketAf1f i = ⊥
FirstBinByte Packet28 i = ⊥

-- the bytes that a clear scan is read by: 0-3, 16-17, 18-19 in packet 16, 20-21, 26-29; all from byte 30 on is unread
abbrev pub ReadByte : Packet → ℕ → Type 0
ReadByte packet i = (i < 4) ⊎ (((16 ≤ i) × (i < 18)) ⊎ (FirstBinByte packet i ⊎ (((20 ≤ i) × (i < 22)) ⊎ ((26 ≤ i) × (i < 30)))))

-- b' is long enough too, and agrees with b on these bytes
pub record Agrees (packet : Packet) (b b' : List ℕ) : Type 0 where
  pub long : 30 ≤ length b'
  pub read : (i : ℕ) → ReadByte packet i → slice_index b' i ≡ slice_index b i
