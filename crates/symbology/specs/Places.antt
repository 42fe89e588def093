-- Where the radials of an accepted body stand and which of its bytes are unread, in document 01's own words and figures.
use Rattle.std.specs.Prelude.{◌≡◌, ℕ, zero, suc, ◌+◌, ◌*◌, ◌<◌, ◌≤◌, ◌≢◌, ◌⊎◌, ◌↔◌, List, [], ◌∷◌, map, length, slice_index, slice_index_or}
use Rattle.wire.specs.Bytes.{u16_at, u32_at, i32_at}
use Rattle.wire.specs.Reading.{Frame, Unread, Piece, as_number, as_unread, as_data, pieces}
use Rattle.xdr.specs.Xdr.{padding, at_least0}
use Rattle.symbology.specs.declared.figures.Packet.{Packet}
use Rattle.symbology.specs.declared.figures.Packet.TheVariants.{Packet16, PacketAf1f, Packet28}
use Rattle.symbology.specs.declared.figures.Figures.{Figures}
use Rattle.symbology.specs.Rows.{row_of}
use Rattle.symbology.specs.Damage.{radial_count, radial_at}
use Rattle.symbology.specs.Symbology.{covered, symbology}

-- ---- packets 16 and AF1F: byte numbers

-- radial r begins here: the first at byte 30, each next after the data of the one before
unfoldable pub place : Packet → List ℕ → ℕ → ℕ
place packet b zero = 30
place packet b (suc r) = place packet b r + 6 + covered packet (u16_at b (place packet b r))

-- its data, start and size: after its six bytes, what its count covers
abbrev pub counted : Packet → List ℕ → ℕ → ℕ × ℕ
counted packet b r = (place packet b r + 6, covered packet (u16_at b (place packet b r)))

-- its frame
unfoldable pub frame_at : Packet → ℕ → List ℕ → ℕ → Frame
frame_at packet bins b r = record { start = (counted packet b r).0; count = (counted packet b r).1; row = row_of packet bins r }

-- the unread bytes: 4-15, 22-25, all after the last radial; AF1F 18-19
unfoldable pub UnreadByte : Packet → ℕ → List ℕ → ℕ → Type 0
UnreadByte Packet16 radials b i = ((4 ≤ i) × (i < 16)) ⊎ (((22 ≤ i) × (i < 26)) ⊎ (place Packet16 b radials ≤ i))
UnreadByte PacketAf1f radials b i =
    ((4 ≤ i) × (i < 16)) ⊎ (((18 ≤ i) × (i < 20)) ⊎ (((22 ≤ i) × (i < 26)) ⊎ (place PacketAf1f b radials ≤ i)))
UnreadByte Packet28 radials b i = ⊥

-- ---- packet 28: the body as a list of items, each with its name and size

pub data Label : Type 0 where
  -- 0-1, 2-3, 4-15, 16-17, 18-19, 20-23
  divider block_id block_rest packet_code reserved payload_length : Label
  string_length string_body_label string_padding : Label
  list_count list_pointer : Label
  -- a number of the product block that is no string length, list count or component type
  product_number : Label
  component_type gate_figure radial_count_label : Label
  azimuth elevation width bin_count array_count_label array_body : Label

-- what document 01 says of an item: unread, data, or read
unfoldable pub mark : Label → ℕ → Piece
mark block_rest = as_unread
mark reserved = as_unread
mark string_body_label = as_unread
mark string_padding = as_unread
mark list_pointer = as_unread
mark elevation = as_unread
mark product_number = as_unread
mark array_body = as_data
mark divider = as_number
mark block_id = as_number
mark packet_code = as_number
mark payload_length = as_number
mark string_length = as_number
mark list_count = as_number
mark component_type = as_number
mark gate_figure = as_number
mark radial_count_label = as_number
mark azimuth = as_number
mark width = as_number
mark bin_count = as_number
mark array_count_label = as_number

abbrev pub Items : Type 0
Items = List (Label × ℕ)

-- an item of n bytes at a position, and what follows it
abbrev pub one : Label → ℕ → (ℕ → Items) → ℕ → Items
one label n rest p = (label, n) ∷ rest (p + n)

-- a string: length, body, padding to four
unfoldable pub string_items : List ℕ → (ℕ → Items) → ℕ → Items
string_items s rest p = one string_length 4 (one string_body_label (u32_at s p) (one string_padding (padding (u32_at s p)) rest)) p

-- the items of n further list elements, each after a pointer
unfoldable pub further_items : ((ℕ → Items) → ℕ → Items) → ℕ → (ℕ → Items) → ℕ → Items
further_items element zero rest = rest
further_items element (suc n) rest = one list_pointer 4 (element (further_items element n rest))

unfoldable pub element_items : ((ℕ → Items) → ℕ → Items) → ℕ → (ℕ → Items) → ℕ → Items
element_items element zero rest = rest
element_items element (suc n) rest = element (further_items element n rest)

-- a list: count, pointer, the elements with a pointer between any two
unfoldable pub list_items : List ℕ → ((ℕ → Items) → ℕ → Items) → (ℕ → Items) → ℕ → Items
list_items s element rest p = one list_count 4 (one list_pointer 4 (element_items element (at_least0 (i32_at s p)) rest)) p

-- a parameter: two strings
unfoldable pub parameter_items : List ℕ → (ℕ → Items) → ℕ → Items
parameter_items s rest = string_items s (string_items s rest)

-- so many numbers of the product block
unfoldable pub numbers : ℕ → (ℕ → Items) → ℕ → Items
numbers zero rest = rest
numbers (suc n) rest = one product_number 4 (numbers n rest)

-- name, description, code, type, time; radar name; latitude to uncompressed size; parameters
unfoldable pub product_items : List ℕ → (ℕ → Items) → ℕ → Items
product_items s rest = string_items s (string_items s (numbers 3 (string_items s (numbers 12 (list_items s (parameter_items s) rest)))))

-- a radial: azimuth, elevation, width, bins, attributes, array
unfoldable pub radial_items : List ℕ → (ℕ → Items) → ℕ → Items
radial_items s rest =
    one azimuth 4 (one elevation 4 (one width 4 (one bin_count 4 (string_items s λ p.
    one array_count_label 4 (one array_body (u32_at s p * 4) rest) p))))

unfoldable pub radials_items : List ℕ → ℕ → (ℕ → Items) → ℕ → Items
radials_items s zero rest = rest
radials_items s (suc n) rest = radial_items s (radials_items s n rest)

-- a component: type, description, gate width and first gate, parameters, radials
unfoldable pub component_items : List ℕ → (ℕ → Items) → ℕ → Items
component_items s rest =
    one component_type 4 (string_items s (one gate_figure 4 (one gate_figure 4 (list_items s (parameter_items s) λ p.
    one radial_count_label 4 (radials_items s (at_least0 (i32_at s p)) rest) p))))

-- the whole body: 24 bytes, then the product block and the components
unfoldable pub body_items : List ℕ → Items
body_items b =
    one divider 2 (one block_id 2 (one block_rest 12 (one packet_code 2 (one reserved 2 (one payload_length 4
    (product_items b (list_items b (component_items b) λ p. []))))))) 0

-- the marks of its items, in order
unfoldable pub marks : List ℕ → List Piece
marks b = map (λ x. mark x.0 x.1) (body_items b)

-- position i stands in an unread piece of a list that starts at p
unfoldable pub UnreadIn : List Piece → ℕ → ℕ → Type 0
UnreadIn [] p i = ⊥
UnreadIn (as_number n ∷ xs) p i = UnreadIn xs (p + n) i
UnreadIn (as_unread n ∷ xs) p i = ((p ≤ i) × (i < p + n)) ⊎ UnreadIn xs (p + n) i
UnreadIn (as_data n ∷ xs) p i = UnreadIn xs (p + n) i

-- where its data stand: starts and sizes
unfoldable pub data_places : List Piece → ℕ → List (ℕ × ℕ)
data_places [] p = []
data_places (as_number n ∷ xs) p = data_places xs (p + n)
data_places (as_unread n ∷ xs) p = data_places xs (p + n)
data_places (as_data n ∷ xs) p = (p, n) ∷ data_places xs (p + n)

-- ---- all packets

-- the data of a radial are enough for its row: packet 16 at least n_bins bytes, packet 28 n_bins integers
unfoldable pub Enough : Packet → ℕ → ℕ → Type 0
Enough Packet16 bins count = bins ≤ count
Enough PacketAf1f bins count = Unit {0}
Enough Packet28 bins count = count ≡ bins * 4

-- What the places of an accepted body with the figures f are.
pub record Placed (b : List ℕ) (f : Figures) : Type 0 where
  -- as many radials as the body says, each with the row of its packet, its own number in its refusal
  pub count : radial_count symbology b ≡ f.n_radials
  pub rows : (r : ℕ) → r < f.n_radials → (radial_at symbology b r).row ≡ row_of f.packet f.n_bins r
  -- each has data for its row
  pub enough : (r : ℕ) → r < f.n_radials → Enough f.packet f.n_bins (radial_at symbology b r).count
  -- packets 16 and AF1F, in figures; the last ends inside the body
  pub frames : f.packet ≢ Packet28 → (r : ℕ) → r < f.n_radials
      → radial_at symbology b r ≡ frame_at f.packet f.n_bins b r
  pub inside : f.packet ≢ Packet28 → place f.packet b f.n_radials ≤ length b
  pub unread : f.packet ≢ Packet28 → (i : ℕ) → Unread symbology b 0 i ↔ UnreadByte f.packet f.n_radials b i
  -- packet 28, item by item: what is read, unread and data, in order
  pub items : f.packet ≡ Packet28 → pieces symbology b 0 ≡ marks b
  -- its payload ends inside the body; a byte is unread where its item is, or past the payload
  pub inside28 : f.packet ≡ Packet28 → ((i : ℕ) → slice_index b i < 256) → 24 + u32_at b 20 ≤ length b
  pub unread28 : f.packet ≡ Packet28 → (i : ℕ) → i < length b → Unread symbology b 0 i ↔ (UnreadIn (marks b) 0 i ⊎ (24 + u32_at b 20 ≤ i))
  -- and a radial's data are the integers of its array
  pub data28 : f.packet ≡ Packet28 → (r : ℕ) → r < f.n_radials
      → slice_index_or (data_places (marks b) 0) r (0, 0) ≡ ((radial_at symbology b r).start, (radial_at symbology b r).count)
