-- Damage to an accepted body in document 01's words: byte numbers for packets 16 and AF1F, items for packet 28.
use Rattle.std.specs.Prelude.{◌≡◌, ℕ, ◌+◌, ◌<◌, ◌≤◌, ◌≢◌, ◌⊎◌, List, length, slice_index, slice_index_or}
use Rattle.std.proofs.Math.Seq.{slice}
use Rattle.wire.specs.Bytes.{u32_at}
use Rattle.symbology.specs.declared.figures.Packet.{Packet}
use Rattle.symbology.specs.declared.figures.Packet.TheVariants.{Packet16, PacketAf1f, Packet28}
use Rattle.symbology.specs.declared.figures.Figures.{Figures}
use Rattle.symbology.specs.Places.{counted, UnreadByte, marks, UnreadIn, data_places}

-- byte i is unread: by its number, or by its item; all past packet 28's payload is
unfoldable pub IsUnread : Packet → ℕ → List ℕ → ℕ → Type 0
IsUnread Packet16 radials b i = UnreadByte Packet16 radials b i
IsUnread PacketAf1f radials b i = UnreadByte PacketAf1f radials b i
IsUnread Packet28 radials b i = UnreadIn (marks b) 0 i ⊎ (24 + u32_at b 20 ≤ i)

-- s is a list of bytes, one past the end counting 0
abbrev pub Bytes : List ℕ → Type 0
Bytes s = (i : ℕ) → slice_index s i < 256

-- i is one of so many places from a start on
abbrev pub Inside : ℕ × ℕ → ℕ → Type 0
Inside d i = (d.0 ≤ i) × (i < d.0 + d.1)

-- start and size of radial r's data in b: for packets 16 and AF1F by figures, for packet 28 by items
unfoldable pub data_place : Packet → List ℕ → ℕ → ℕ × ℕ
data_place Packet16 b r = counted Packet16 b r
data_place PacketAf1f b r = counted PacketAf1f b r
data_place Packet28 b r = slice_index_or (data_places (marks b) 0) r (0, 0)

-- byte i is a data byte of radial r: "what a radial's count covers; in packet 28 the integers of its array"
abbrev pub IsData : Packet → List ℕ → ℕ → ℕ → Type 0
IsData packet b r i = Inside (data_place packet b r) i

-- the bytes of b' where the data of radial r stand in b
unfoldable pub data_of : Packet → List ℕ → ℕ → List ℕ → List ℕ
data_of packet b r b' = slice (data_place packet b r).0 ((data_place packet b r).0 + (data_place packet b r).1) b'

-- "A radial is changed if one of its data bytes differs; the first body says where radials stand, and they are numbered from 0"
abbrev pub ChangedIn : Packet → List ℕ → List ℕ → ℕ → Type 0
ChangedIn packet b b' r = (i : ℕ) × IsData packet b r i × (slice_index b i ≢ slice_index b' i)

-- b' differs from b, an accepted body with the figures f, just in data bytes of radials and in unread bytes
pub record DamageInWords (b : List ℕ) (f : Figures) (b' : List ℕ) : Type 0 where
  pub same_length : length b' ≡ length b
  pub only : (i : ℕ) → i < length b → slice_index b i ≢ slice_index b' i
      → IsUnread f.packet f.n_radials b i ⊎ ((r : ℕ) × (r < f.n_radials) × IsData f.packet b r i)
