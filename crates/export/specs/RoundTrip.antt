-- Document 02, M-109: what the written body is, read again.
use Rattle.std.specs.Prelude.{ℕ, ◌+◌, ◌-◌, ◌*◌, ◌%◌, ◌≤◌, ◌<◌, List, ◌↔◌, ◌≡◌, length, get_or, replicate}
use Rattle.std.proofs.Math.Seq.{slice}
use Rattle.wire.specs.Bytes.{u16_at, u32_at}
use Rattle.wire.specs.Result.{accepted, then}
use Rattle.wire.specs.Reading.{run, Given}
use Rattle.scale.specs.declared.physical.Scheme.{Scheme}
use Rattle.symbology.specs.Answers.{Picture, picture_of}
use Rattle.symbology.specs.Places.{place}
use Rattle.symbology.specs.Symbology.{Sweep, symbology}
use Rattle.symbology.specs.declared.figures.Figures.{Figures}
use Rattle.symbology.specs.declared.figures.Packet.TheVariants.{Packet16, PacketAf1f}
use Rattle.sweep.specs.Sweep.{Accepted, sweep_of}
use Rattle.export.specs.Export.{count_for, export_of}

-- the same figures, of packet 16
abbrev pub figures16 : Figures → Figures
figures16 f = record { packet = Packet16; n_radials = f.n_radials; n_bins = f.n_bins; geometry = f.geometry }

-- the same picture, of packet 16
abbrev pub picture16 : Picture → Picture
picture16 p = record { figures = figures16 p.figures; azimuths = p.azimuths; codes = p.codes }

-- the same answer of the sweep reading, of packet 16
abbrev pub accepted16 : Accepted → Accepted
accepted16 a = record {
  sweep = record {
    token = a.sweep.token;
    fields = a.sweep.fields;
    time = a.sweep.time;
    declared = a.sweep.declared;
    figures = figures16 a.sweep.figures;
  };
  azimuths = a.azimuths;
  codes = a.codes;
  physical = a.physical;
}

abbrev pub IsLegacy : Scheme → Type 0
IsLegacy Scheme.Halfword = ⊥
IsLegacy Scheme.Float = ⊥
IsLegacy (Scheme.Precipitation factor) = ⊥
IsLegacy (Scheme.Legacy post) = Unit {0}
IsLegacy Scheme.Class = ⊥

-- Of an original b and the body o that was written for it:
pub record RoundTrip (b o : List ℕ) : Type 0 where
  -- symbology accepts both with the same centres, codes, counts and range scale: the original as AF1F, the written one as packet 16
  pub picture : Picture
  pub original : picture_of b ≡ accepted picture
  pub was_af1f : picture.figures.packet ≡ PacketAf1f
  pub written : picture_of o ≡ accepted (picture16 picture)
  -- the written one is read to its last byte
  pub read : Given Sweep
  pub read_is : run symbology o 0 ≡ accepted read
  pub to_the_end : read.next ≡ length o
  -- the sweep reading under any scheme but legacy, with the same other input: of both bodies the same but for the packet, refusals too
  pub swept : (scheme : Scheme) (file : List ℕ) (clock na nc np : ℕ) → ¬ (IsLegacy scheme)
      → sweep_of scheme file clock o na nc np ≡ then (sweep_of scheme file clock b na nc np) λ a. accepted (accepted16 a)

-- how long the written body is
abbrev pub size_for : Figures → ℕ
size_for f = 30 + f.n_radials * (6 + count_for f.n_bins)

-- An original is accepted exactly if symbology accepts it, it is AF1F, its first bin is 0, its bins are not 65,535, and the buffer is long
-- enough.
abbrev pub Wanted : List ℕ → ℕ → Picture → Type 0
Wanted b room p =
    (picture_of b ≡ accepted p) × (p.figures.packet ≡ PacketAf1f) × (u16_at b 18 ≡ 0) × (p.figures.n_bins ≡ 65535 → ⊥) × (size_for p.figures ≤ room)

pub record Exactly (b : List ℕ) (room : ℕ) : Type 0 where
  pub exactly : ((o : List ℕ) × (export_of b room ≡ accepted o)) ↔ ((p : Picture) × Wanted b room p)

-- ---- the written body in M-109's own words and byte numbers

-- radial r of the written body begins here
abbrev pub place16 : List ℕ → ℕ → ℕ
place16 b r = 30 + r * (6 + count_for (u16_at b 20))

pub record Layout (b o : List ℕ) : Type 0 where
  -- bytes 4-7 hold the whole length, 8-9 one layer, 10-11 -1, 12-15 the length less 16
  pub whole : u32_at o 4 ≡ length o
  pub layers : u16_at o 8 ≡ 1
  pub divider : u16_at o 10 ≡ 0xFFFF
  pub layer : u32_at o 12 ≡ length o - 16
  -- first bin is 0, and bins and radials are the original's
  pub first : u16_at o 18 ≡ 0
  pub bins : u16_at o 20 ≡ u16_at b 20
  pub radials : u16_at o 28 ≡ u16_at b 28
  -- the same range scale, bytes 22-25, starts and widths
  pub range : u16_at o 26 ≡ u16_at b 26
  pub kept : ((i : ℕ) → get_or b i 0 < 256) → slice 22 26 o ≡ slice 22 26 b
  pub starts : (r : ℕ) → r < u16_at b 28 → u16_at o (place16 b r + 2) ≡ u16_at b (place PacketAf1f b r + 2)
  pub widths : (r : ℕ) → r < u16_at b 28 → u16_at o (place16 b r + 4) ≡ u16_at b (place PacketAf1f b r + 4)
  -- each radial's count is n_bins, or n_bins + 1 with a zero byte last where n_bins is odd
  pub counts : (r : ℕ) → r < u16_at b 28 → u16_at o (place16 b r) ≡ count_for (u16_at b 20)
  pub last : (r : ℕ) → r < u16_at b 28
      → slice (place16 b r + 6 + u16_at b 20) (place16 b r + 6 + count_for (u16_at b 20)) o ≡ replicate (u16_at b 20 % 2) 0
