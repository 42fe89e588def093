-- The reading of a symbology body (document 01, 'From body to rows'; ICD 2620001, Appendix E for packet 28): one text, from which come
-- the answer, the rows, the places of the data bytes and the unread bytes.
use Rattle.std.specs.Prelude.{ℕ, zero, suc, ◌+◌, ◌-◌, ◌*◌, Bool, false, cond, not, ◌&&◌, ◌||◌, List, [], ◌∷◌, length, ℤ, pos, ◌==◌, int_le, int_lt, nat_lt, Float}
use Rattle.wire.specs.Bytes.{signed}
use Rattle.wire.specs.Refusal.{kind, nat, whole, float, item}
use Rattle.wire.specs.Reading.{Read, Flat, give, stop, within, ◌>>=◌, ◌>>◌, remaining, u16, u32, unread, radial_data, refuse_if}
use Rattle.wire.specs.declared.error.XdrItem.TheVariants as Item
use Rattle.xdr.specs.Xdr as Xdr
use Rattle.xdr.specs.Xdr.{pass, int, string, array_count, at_least0, counted, parameter}
use Rattle.symbology.specs.Centre.{centre, centre28, width_degrees}
use Rattle.symbology.specs.Rows.{row_of}
use Rattle.symbology.specs.declared.figures.Packet.{Packet}
use Rattle.symbology.specs.declared.figures.Packet.TheVariants.{Packet16, PacketAf1f, Packet28}
use Rattle.symbology.specs.declared.figures.Geometry.TheVariants.{RangeScale, Gates}
use Rattle.symbology.specs.declared.figures.Figures.{Figures}
use Rattle.symbology.specs.declared.generic.XdrRadial.{XdrRadial}
use Rattle.symbology.specs.declared.generic.Gates28.{Gates28}

-- What an accepted body gives beside its rows.
pub record Sweep : Type 0 where
  pub figures : Figures
  pub azimuths : List Float

-- ---- packets 16 and AF1F

-- how many bytes a radial's count covers
unfoldable pub covered : Packet → ℕ → ℕ
covered Packet16 count = count
covered PacketAf1f count = count * 2
covered Packet28 count = count * 4

-- 21: data past the end; packet 16 count under bins
unfoldable pub count_wrong : Packet → ℕ → ℕ → ℕ → Bool
count_wrong Packet16 bins count room = nat_lt count bins || nat_lt room count
count_wrong PacketAf1f bins count room = nat_lt room (count * 2)
count_wrong Packet28 bins count room = false

-- a radial's six bytes: its count, and its start and width in tenths
pub record Beam : Type 0 where
  pub count : ℕ
  pub start : ℕ
  pub width : ℕ

-- a radial's frame, which does not look at its data: 19, 20, 21
unfoldable pub frame : Packet → ℕ → ℕ → ℕ → Flat Beam
frame packet radials bins r = do
  avail ← remaining
  refuse_if (nat_lt avail 6) (kind 19 (nat r ∷ nat radials ∷ []))
  count ← u16
  start ← u16
  width ← u16
  refuse_if (width == 0 || nat_lt 100 width) (kind 20 (nat r ∷ float (width_degrees width) ∷ []))
  room ← remaining
  refuse_if (count_wrong packet bins count room) (kind 21 (nat r ∷ nat count ∷ nat bins ∷ []))
  give (record { count = count; start = start; width = width })

-- a radial: its frame, its data with their row (22), and its centre
unfoldable pub radial : Packet → ℕ → ℕ → ℕ → Flat Float
radial packet radials bins r = do
  beam ← frame packet radials bins r
  radial_data (covered packet beam.count) (row_of packet bins r)
  give (centre beam.start beam.width)

-- n radials from radial r on
unfoldable pub radial_walk : Packet → ℕ → ℕ → ℕ → ℕ → Flat (List Float)
radial_walk packet radials bins zero r = give []
radial_walk packet radials bins (suc n) r = do
  first ← radial packet radials bins r
  azimuths ← radial_walk packet radials bins n (suc r)
  give (first ∷ azimuths)

-- bytes 18-19: read in packet 16 alone
unfoldable pub first_bin : Packet → Flat ℕ
first_bin Packet16 = u16
first_bin PacketAf1f = do
  unread 2
  give 0
first_bin Packet28 = give 0

-- 18, of packet 16 alone
unfoldable pub over_body : Packet → ℕ → ℕ → ℕ → Bool
over_body Packet16 radials bins room = nat_lt room (radials * (6 + bins))
over_body PacketAf1f radials bins room = false
over_body Packet28 radials bins room = false

pub record Header : Type 0 where
  pub radials : ℕ
  pub bins : ℕ
  pub range : ℕ

-- from byte 20 on: 15 for bins 0, 16; packet 16 also 17, 18. A body of no radials is a clear scan: a sweep of no rows
abbrev pub counts : Packet → ℕ → Flat Header
counts packet first = do
  bins ← u16
  unread 4
  range ← u16
  radials ← u16
  refuse_if (bins == 0) (kind 15 (nat radials ∷ nat bins ∷ []))
  refuse_if (nat_lt 4000000 (radials * bins)) (kind 16 (nat radials ∷ nat bins ∷ nat (radials * bins) ∷ nat 4000000 ∷ []))
  refuse_if (not (first == 0)) (kind 17 (nat first ∷ []))
  room ← remaining
  refuse_if (over_body packet radials bins room) (kind 18 (nat radials ∷ nat bins ∷ nat (radials * (6 + bins)) ∷ nat room ∷ []))
  give (record { radials = radials; bins = bins; range = range })

-- from byte 18 on: 12, and the counts
unfoldable pub packet_header : Packet → Flat Header
packet_header packet = do
  avail ← remaining
  refuse_if (nat_lt avail 12) (kind 12 (nat (18 + avail) ∷ []))
  first ← first_bin packet
  counts packet first

unfoldable pub radial_packet : Packet → Read (Unit {0}) Sweep
radial_packet packet = do
  h ← packet_header packet
  azimuths ← radial_walk packet h.radials h.bins h.radials 0
  give (record {
    figures = record {
      packet = packet;
      n_radials = h.radials;
      n_bins = h.bins;
      geometry = RangeScale h.range;
    };
    azimuths = azimuths;
  })

-- ---- packet 28

-- everything up to the components: nothing is read but string lengths and list counts
unfoldable pub product_block : Flat (Unit {0})
product_block = do
  string  -- name
  string  -- description
  pass Item.Int 4  -- code
  pass Item.Int 4  -- type
  pass Item.Uint 4  -- prod_time
  string  -- radar_name
  pass Item.Float 4  -- latitude
  pass Item.Float 4  -- longitude
  pass Item.Float 4  -- height
  pass Item.Uint 4  -- vol_time
  pass Item.Uint 4  -- el_time
  pass Item.Float 4  -- el_angle
  pass Item.Int 4  -- vol_num
  pass Item.Int 4  -- op_mode
  pass Item.Int 4  -- vcp_num
  pass Item.Int 4  -- el_num
  pass Item.Int 4  -- compression
  pass Item.Int 4  -- uncompressed_size
  counted parameter
  give tt

-- a radial's frame: all six items, then 29, 31, 32, 33 (first radial only). `expected` is radial 0's number of bins, for the others
unfoldable pub xdr_frame : ℕ → ℕ → (ℕ → ℕ) → Flat XdrRadial
xdr_frame radials r expected = do
  azimuth ← Xdr.float
  pass Item.Float 4  -- elevation
  width ← Xdr.float
  bins ← int
  string  -- attributes
  n ← array_count
  refuse_if (int_le bins (pos 0)) (kind 29 (nat radials ∷ whole bins ∷ []))
  refuse_if (not (at_least0 bins == expected (at_least0 bins))) (kind 31 (nat r ∷ nat (at_least0 bins) ∷ nat (expected (at_least0 bins)) ∷ []))
  refuse_if (not (n == at_least0 bins)) (kind 32 (nat r ∷ nat n ∷ nat (at_least0 bins) ∷ []))
  refuse_if (r == 0 && nat_lt 4000000 (radials * at_least0 bins)) (kind 33 (nat radials ∷ nat (at_least0 bins) ∷ nat (radials * at_least0 bins) ∷ nat 4000000 ∷ []))
  give (record { centre = centre28 azimuth width; bins = at_least0 bins })

-- a radial: its frame, and its data with their row (34)
unfoldable pub xdr_radial : ℕ → ℕ → (ℕ → ℕ) → Flat XdrRadial
xdr_radial radials r expected = do
  xdr ← xdr_frame radials r expected
  radial_data (xdr.bins * 4) (row_of Packet28 xdr.bins r)
  give xdr

-- n further radials from radial r on
unfoldable pub xdr_walk : ℕ → ℕ → ℕ → ℕ → Flat (List Float)
xdr_walk radials bins zero r = give []
xdr_walk radials bins (suc n) r = do
  xdr ← xdr_radial radials r (λ _. bins)
  azimuths ← xdr_walk radials bins n (suc r)
  give (xdr.centre ∷ azimuths)

-- all radials, of which the first gives the number of bins
unfoldable pub xdr_radials : ℕ → Float → Float → Flat Sweep
xdr_radials radials gate_width first_gate = do
  first ← xdr_radial radials 0 (λ bins. bins)
  azimuths ← xdr_walk radials first.bins (radials - 1) 1
  give (record {
    figures = record {
      packet = Packet28;
      n_radials = radials;
      n_bins = first.bins;
      geometry = Gates gate_width first_gate;
    };
    azimuths = first.centre ∷ azimuths;
  })

-- 27, 29, 30; the type 1 is "radial"
unfoldable pub component_head : Flat Gates28
component_head = do
  type ← int
  refuse_if (not (at_least0 type == 1)) (kind 27 (whole type ∷ []))
  string  -- description
  gate_width ← Xdr.float
  first_gate ← Xdr.float
  counted parameter
  radials ← int
  refuse_if (int_le radials (pos 0)) (kind 29 (whole radials ∷ nat 0 ∷ []))
  refuse_if (int_lt (pos 100000) radials) (kind 30 (whole radials ∷ nat 100000 ∷ []))
  give (record { radials = at_least0 radials; gate_width = gate_width; first_gate = first_gate })

unfoldable pub component : Flat Sweep
component = do
  head ← component_head
  xdr_radials head.radials head.gate_width head.first_gate

-- 28 where not just one component was walked
unfoldable pub only : List Sweep → Flat Sweep
only [] = stop (kind 28 (nat 0 ∷ []))
only (a ∷ []) = give a
only (a ∷ b ∷ rest) = stop (kind 28 (nat (length (a ∷ b ∷ rest)) ∷ []))

unfoldable pub payload : Read (Unit {0}) Sweep
payload = do
  product_block
  components ← counted component
  sweep ← only components
  rest ← remaining
  refuse_if (not (rest == 0)) (kind 35 (nat rest ∷ []))
  give sweep

-- the payload's length is signed: below 0 or over what remains is 23 with the bytes that remain and max(0, length)
unfoldable pub body_short : ℤ → ℕ → Bool
body_short n room = int_lt n (pos 0) || nat_lt room (at_least0 n)

-- from byte 18 on: 12, 23, and the payload as a part
unfoldable pub generic_packet : Read (Unit {0}) Sweep
generic_packet = do
  avail ← remaining
  refuse_if (nat_lt avail 6) (kind 12 (nat (18 + avail) ∷ []))
  unread 2
  n ← u32
  room ← remaining
  refuse_if (body_short (signed 2147483648 n) room) (kind 23 (item Item.PacketBody ∷ nat room ∷ nat (at_least0 (signed 2147483648 n)) ∷ []))
  within tt n payload

-- ---- the body

unfoldable pub packet_of : ℕ → Read (Unit {0}) Sweep
packet_of code =
    cond (code == 16) (radial_packet Packet16)
    (cond (code == 0xAF1F) (radial_packet PacketAf1f)
    (cond (code == 28) generic_packet
    (stop (kind 14 (whole (signed 32768 code) ∷ [])))))

-- bytes 0-17: 12, 13, and the packet's code, by which the reading goes on
abbrev pub with_code : {W A : Type 0} → (ℕ → Read W A) → Read W A
with_code next = do
  n ← remaining
  refuse_if (nat_lt n 18) (kind 12 (nat n ∷ []))
  divider ← u16
  block ← u16
  refuse_if (not (divider == 0xFFFF && block == 1)) (kind 13 (whole (signed 32768 divider) ∷ whole (signed 32768 block) ∷ []))
  unread 12
  code ← u16
  next code

-- the code alone
abbrev pub block_header : Flat ℕ
block_header = with_code give

unfoldable pub symbology : Read (Unit {0}) Sweep
symbology = with_code packet_of
