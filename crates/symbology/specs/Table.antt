-- Bodies with their pictures or refusals: a zero run in AF1F, clear scans, and packet 28, also its centres. (Document 01's table, P1 to P13, is the sweep's.)
use Rattle.std.specs.Prelude.{◌≡◌, ℕ, ◌+◌, ◌/◌, ◌%◌, List, [], ◌∷◌, ◌++◌, length, replicate, Float}
use Rattle.std.specs.Float.{nan}
use Rattle.std.specs.Float.Ieee.{neg}
use Rattle.wire.specs.Float.{f32, f64}
use Rattle.wire.specs.Refusal.{kind, nat}
use Rattle.wire.specs.Result.{Result, accepted, refused}
use Rattle.wire.specs.Reading.{Piece, as_number, as_unread, as_data, pieces}
use Rattle.symbology.specs.Answers.{Picture, picture_of}
use Rattle.symbology.specs.Centre.{centre28}
use Rattle.symbology.specs.Clear.{empty_picture}
use Rattle.symbology.specs.Symbology.{symbology}
use Rattle.symbology.specs.declared.figures.Packet.{Packet}
use Rattle.symbology.specs.declared.figures.Packet.TheVariants.{Packet16, PacketAf1f, Packet28}
use Rattle.symbology.specs.declared.figures.Geometry.TheVariants.{RangeScale, Gates}

-- a halfword
abbrev pub two : ℕ → List ℕ
two n = n / 256 ∷ n % 256 ∷ []

-- the first 18 bytes, with the packet code
abbrev pub start : ℕ → List ℕ
start code = two 0xFFFF ++ two 1 ++ replicate 12 0 ++ two code

-- a body of packet 16 or AF1F with one radial of so many bins, range scale 1: the radial's count, start and width, and its data
abbrev pub one_radial : ℕ → ℕ → ℕ × ℕ × ℕ → List ℕ → List ℕ
one_radial code bins beam bytes = start code ++ two 0 ++ two bins ++ replicate 4 0 ++ two 1 ++ two 1 ++ two beam.0 ++ two beam.1 ++ two beam.2 ++ bytes

-- its picture
abbrev pub one_picture : Packet → ℕ → Float → List ℕ → Result Picture
one_picture packet bins centre row =
    accepted (record { figures = record { packet = packet; n_radials = 1; n_bins = bins; geometry = RangeScale 1 }; azimuths = centre ∷ []; codes = row })

-- a run of length 0 adds nothing, and the row goes on after it
pub record Runs : Type 0 where
  pub zero_run : picture_of (one_radial 0xAF1F 5 (2, 0, 10) (0x31 ∷ 0x07 ∷ 0x25 ∷ 0x00 ∷ [])) ≡ one_picture PacketAf1f 5 (f64 5 10) (1 ∷ 1 ∷ 1 ∷ 5 ∷ 5 ∷ [])

-- ---- clear scans

-- a body of packet 16 or AF1F with no radials: its first bin, bins, range scale 1, and bytes after its header
abbrev pub no_radials : ℕ → ℕ → ℕ → List ℕ → List ℕ
no_radials code first bins rest = start code ++ two first ++ two bins ++ replicate 4 0 ++ two 1 ++ two 0 ++ rest

pub record ClearScans : Type 0 where
  pub packet_16 : picture_of (no_radials 16 0 5 []) ≡ accepted (empty_picture Packet16 5 1)
  pub packet_af1f : picture_of (no_radials 0xAF1F 0 5 []) ≡ accepted (empty_picture PacketAf1f 5 1)
  -- bytes after the header are unread, and AF1F's bytes 18-19
  pub later_bytes : picture_of (no_radials 0xAF1F 1 5 (1 ∷ 2 ∷ 3 ∷ [])) ≡ accepted (empty_picture PacketAf1f 5 1)
  -- bins 0 is still 15, whatever the radials
  pub is_15 : picture_of (no_radials 16 1 0 []) ≡ refused (kind 15 (nat 0 ∷ nat 0 ∷ []))
  pub is_15_too : picture_of (one_radial 0xAF1F 0 (0, 0, 10) []) ≡ refused (kind 15 (nat 1 ∷ nat 0 ∷ []))
  -- packet 16 whose first bin is 1
  pub is_17 : picture_of (no_radials 16 1 5 []) ≡ refused (kind 17 (nat 1 ∷ []))

-- ---- packet 28

-- (azimuth + width / 2) % 360, of azimuth and width: the sign is the dividend's, also of 0; NaN stays
pub record Centres28 : Type 0 where
  pub wraps : centre28 (f32 3595 10) (f32 1 1) ≡ f64 0 1
  pub below_0 : centre28 (neg (f32 10 1)) (f32 1 1) ≡ neg (f64 95 10)
  pub minus_0 : centre28 (neg (f32 360 1)) (f32 0 1) ≡ neg (f64 0 1)
  pub stays_nan : centre28 nan (f32 1 1) ≡ nan

-- a word
abbrev pub four : ℕ → List ℕ
four n = two (n / 65536) ++ two (n % 65536)

-- a list of no elements
abbrev pub no_list : List ℕ
no_list = four 0 ++ four 0

-- a list of one parameter, whose name has one byte and three of padding, and whose value is empty
abbrev pub one_parameter : List ℕ
one_parameter = four 1 ++ four 0 ++ four 1 ++ (65 ∷ 0 ∷ 0 ∷ 0 ∷ []) ++ four 0

-- a radial of two bins: its azimuth as an f32's bits, elevation 0, width 1, the number of bins, no attributes, and its array
abbrev pub xdr_radial : ℕ → ℕ → ℕ → ℕ → List ℕ
xdr_radial azimuth bins a b = four azimuth ++ four 0 ++ four 0x3F800000 ++ four bins ++ four 0 ++ four 2 ++ four a ++ four b

-- a component of a type: no description, gates of 250 m from 125 m on, its parameters, and its radials
abbrev pub component : ℕ → List ℕ → ℕ → List ℕ → List ℕ
component type parameters radials bytes = four type ++ four 0 ++ four 0x437A0000 ++ four 0x42FA0000 ++ parameters ++ four radials ++ bytes

-- two radials of two bins, at 10 and 11 degrees: the second of `bins` bins, its last code `code`
abbrev pub xdr_radials : ℕ → ℕ → List ℕ
xdr_radials bins code = xdr_radial 0x41200000 2 1 2 ++ xdr_radial 0x41300000 bins 3 code

-- a body: its first 18 bytes, two unread, the payload's length, and the payload: the product block, its parameters, and the components
abbrev pub generic : List ℕ → List ℕ → List ℕ
generic parameters components = start 28 ++ two 0 ++ four (72 + length parameters + length components) ++ replicate 72 0 ++ parameters ++ components

abbrev pub two_xdr_radials : List ℕ
two_xdr_radials = four 1 ++ four 0 ++ component 1 no_list 2 (xdr_radials 2 65535)

abbrev pub generic_picture : Result Picture
generic_picture =
    accepted (record {
      figures = record { packet = Packet28; n_radials = 2; n_bins = 2; geometry = Gates (f32 250 1) (f32 125 1) };
      azimuths = f64 105 10 ∷ f64 115 10 ∷ [];
      codes = 1 ∷ 2 ∷ 3 ∷ 65535 ∷ [];
    })

-- n times, and then
abbrev pub times : ℕ → Piece → List Piece → List Piece
times n p rest = replicate n p ++ rest

-- the pieces of a radial of two bins: azimuth, elevation, width, bins, attributes, count, data
abbrev pub xdr_radial_pieces : List Piece → List Piece
xdr_radial_pieces rest = as_number 4 ∷ as_unread 4 ∷ as_number 4 ∷ as_number 4 ∷ as_number 4 ∷ as_unread 0 ∷ as_unread 0 ∷ as_number 4 ∷ as_data 8 ∷ rest

pub record Generic : Type 0 where
  pub two_radials : picture_of (generic no_list two_xdr_radials) ≡ generic_picture
  pub with_parameters : picture_of (generic one_parameter two_xdr_radials) ≡ generic_picture
  -- 65,536 at gate 1 of radial 1
  pub is_34 : picture_of (generic no_list (four 1 ++ four 0 ++ component 1 no_list 2 (xdr_radials 2 65536))) ≡ refused (kind 34 (nat 1 ∷ nat 1 ∷ nat 65536 ∷ []))
  -- radial 1 has three bins and radial 0 two
  pub is_31 : picture_of (generic no_list (four 1 ++ four 0 ++ component 1 no_list 2 (xdr_radials 3 0))) ≡ refused (kind 31 (nat 1 ∷ nat 3 ∷ nat 2 ∷ []))
  -- two components, each walked
  pub is_28 : picture_of (generic no_list (four 2 ++ four 0 ++ component 1 no_list 2 (xdr_radials 2 0) ++ four 0 ++ component 1 no_list 2 (xdr_radials 2 0))) ≡ refused (kind 28 (nat 2 ∷ []))
  -- the second is of type 2: its refusal comes before the count's
  pub is_27 : picture_of (generic no_list (four 2 ++ four 0 ++ component 1 no_list 2 (xdr_radials 2 0) ++ four 0 ++ component 2 no_list 2 [])) ≡ refused (kind 27 (nat 2 ∷ []))
  -- what is read, what is not, and the radials' data: after the divider and the block 12 bytes unread, the code, 2 unread, the payload's
  -- length; three strings and fifteen words of the product block; no parameters; one component
  pub read_unread_data : pieces symbology (generic no_list two_xdr_radials) 0 ≡
      as_number 2 ∷ as_number 2 ∷ as_unread 12 ∷ as_number 2 ∷ as_unread 2 ∷ as_number 4
      ∷ as_number 4 ∷ as_unread 0 ∷ as_unread 0 ∷ as_number 4 ∷ as_unread 0 ∷ as_unread 0
      ∷ times 3 (as_unread 4)
      (as_number 4 ∷ as_unread 0 ∷ as_unread 0
      ∷ times 12 (as_unread 4)
      (as_number 4 ∷ as_unread 4
      ∷ as_number 4 ∷ as_unread 4
      ∷ as_number 4 ∷ as_number 4 ∷ as_unread 0 ∷ as_unread 0 ∷ as_number 4 ∷ as_number 4 ∷ as_number 4 ∷ as_unread 4 ∷ as_number 4
      ∷ xdr_radial_pieces (xdr_radial_pieces [])))
