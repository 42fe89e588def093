-- Document 01's table 'Beams on both edges', lines P1 to P13, over the definitions: what each line's body, radial, level, flag or time
-- gives. (The two grid sizes go through a test program.)
use Rattle.std.specs.Prelude.{ℕ, ◌^◌, ◌≤◌, [], ◌∷◌, ◌++◌, ◌≡◌, replicate, pos}
use Rattle.std.specs.Float.Ieee.{neg}
use Rattle.wire.specs.Float.{f32, f64}
use Rattle.wire.specs.Refusal.{kind, nat, float, item}
use Rattle.wire.specs.Result.{accepted, refused}
use Rattle.wire.specs.declared.error.XdrItem.TheVariants as Item
use Rattle.head.specs.Header.{scan_time}
use Rattle.scale.specs.Legacy.{legacy_level}
use Rattle.scale.specs.Scaling.{floor_of}
use Rattle.symbology.specs.Answers.{picture_of}
use Rattle.symbology.specs.Table.{start, one_radial, one_picture}
use Rattle.symbology.specs.declared.figures.Packet.TheVariants.{Packet16, PacketAf1f}

pub record Table : Type 0 where
  -- P1 17 bytes: 12
  pub p1 : picture_of (replicate 17 0) ≡ refused (kind 12 (nat 17 ∷ []))
  -- P2 18 bytes, code 16: 12
  pub p2 : picture_of (start 16) ≡ refused (kind 12 (nat 18 ∷ []))
  -- P3 18 bytes, code 17: 14
  pub p3 : picture_of (start 17) ≡ refused (kind 14 (nat 17 ∷ []))
  -- P4 packet 28, 24 bytes, length 0: 23, unsigned, 0 left, 4 needed
  pub p4 : picture_of (start 28 ++ replicate 6 0) ≡ refused (kind 23 (item Item.Uint ∷ nat 0 ∷ nat 4 ∷ []))
  -- P5 packet 16, one radial (2, 0, 10), data 7 9: centre 0.5, row 7 9
  pub p5 : picture_of (one_radial 16 2 (2, 0, 10) (7 ∷ 9 ∷ [])) ≡ one_picture Packet16 2 (f64 5 10) (7 ∷ 9 ∷ [])
  -- P6 width 100 passes, 101 is 20, with the width in degrees
  pub p6_passes : picture_of (one_radial 16 2 (2, 0, 100) (7 ∷ 9 ∷ [])) ≡ one_picture Packet16 2 (f64 50 10) (7 ∷ 9 ∷ [])
  pub p6_is_20 : picture_of (one_radial 16 2 (2, 0, 101) (7 ∷ 9 ∷ [])) ≡ refused (kind 20 (nat 0 ∷ float (f32 101 10) ∷ []))
  -- AF1F, 5 bins: P7 `31 25` gives 1 1 1 5 5
  pub p7 : picture_of (one_radial 0xAF1F 5 (1, 0, 10) (0x31 ∷ 0x25 ∷ [])) ≡ one_picture PacketAf1f 5 (f64 5 10) (1 ∷ 1 ∷ 1 ∷ 5 ∷ 5 ∷ [])
  -- P8 `31 35` is 22 with 3
  pub p8 : picture_of (one_radial 0xAF1F 5 (1, 0, 10) (0x31 ∷ 0x35 ∷ [])) ≡ refused (kind 22 (nat 0 ∷ nat 3 ∷ nat 5 ∷ []))
  -- P9 `31 25 F7 00` as P7
  pub p9 : picture_of (one_radial 0xAF1F 5 (2, 0, 10) (0x31 ∷ 0x25 ∷ 0xF7 ∷ 0x00 ∷ [])) ≡ one_picture PacketAf1f 5 (f64 5 10) (1 ∷ 1 ∷ 1 ∷ 5 ∷ 5 ∷ [])
  -- P10 start 3,599, width 10: 0.4, as document 02 (M-100) alters it
  pub p10 : picture_of (one_radial 16 2 (2, 3599, 10) (7 ∷ 9 ∷ [])) ≡ one_picture Packet16 2 (f64 4 10) (7 ∷ 9 ∷ [])
  -- P11 flag 0x21, value 40, post-scale 1: -2
  pub p11 : legacy_level 0x21 40 (f32 1 1) ≡ neg (f32 2 1)
  -- P12 leading 9: floor 1, whatever largest and trailing are
  pub p12 : (largest trailing : ℕ) → floor_of largest 9 trailing ≡ 1
  -- P13 day 1, second 0: 0, at every clock that is in range
  pub p13 : (clock : ℕ) → clock ≤ 2 ^ 40 → scan_time 1 (pos 0) clock ≡ accepted 0
