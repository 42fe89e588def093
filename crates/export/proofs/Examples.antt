-- P7's body exported, and read again. Computed from the definitions. Assumes nothing.
use Prim.Native.Nat.{◌*◌}
use mathlib.Core.List.{[], ◌∷◌, ◌++◌}
use mathlib.Core.Path.{◌≡◌, refl}
use lib.Ieee.{add, div, mul, neg, of_int}
use Rattle.wire.specs.Bytes.{u16_at, u32_at, signed}
use Rattle.wire.specs.Float.{f32, f64}
use Rattle.wire.specs.Refusal.{kind, nat, buffer}
use Rattle.wire.specs.Result.{accepted, refused}
use Rattle.wire.specs.Reading.{run, more, after_row, ◌>>=◌, ◌>>◌, remaining, u16, u32, unread, radial_data, refuse_if}
use Rattle.wire.specs.declared.error.Buffer.TheVariants as Buffer
use Rattle.symbology.specs.Answers.{joined, picture_of}
use Rattle.symbology.specs.Centre.{centre, width_degrees}
use Rattle.symbology.specs.Rows.{row_of, row16, row_af1f, reach, cells}
use Rattle.symbology.specs.Symbology.{symbology, packet_of, radial_packet, packet_header, first_bin, over_body, radial_walk, radial, frame, covered, count_wrong}
use Rattle.symbology.specs.Table.{start, one_radial, one_picture, no_radials, two}
use Rattle.symbology.specs.declared.figures.Packet.TheVariants.{Packet16}
use Rattle.export.specs.Export.{export_of, exportable, export_head, export_radial, export_walk, beam_bytes, beams_bytes, head_bytes, packet16_body, body_of}
use mathlib.Core.List.{List}
use Prim.Native.Nat.{ℕ}
use lib.ListN.{replicate}

abbrev pub p7 : List ℕ
p7 = one_radial 0xAF1F 5 (1, 0, 10) (0x31 ∷ 0x25 ∷ [])

abbrev pub written : List ℕ
written =
    0xFF ∷ 0xFF ∷ 0 ∷ 1 ∷ 0 ∷ 0 ∷ 0 ∷ 42 ∷ 0 ∷ 1 ∷ 0xFF ∷ 0xFF ∷ 0 ∷ 0 ∷ 0 ∷ 26
    ∷ 0 ∷ 16 ∷ 0 ∷ 0 ∷ 0 ∷ 5 ∷ 0 ∷ 0 ∷ 0 ∷ 0 ∷ 0 ∷ 1 ∷ 0 ∷ 1
    ∷ 0 ∷ 6 ∷ 0 ∷ 0 ∷ 0 ∷ 10 ∷ 1 ∷ 1 ∷ 1 ∷ 5 ∷ 5 ∷ 0 ∷ []

pub record Examples : Type 0 where
  pub bytes : export_of p7 42 ≡ accepted written
  pub no_room : export_of p7 41 ≡ refused (kind 36 (buffer Buffer.Output ∷ []))
  pub again : picture_of written ≡ one_picture Packet16 5 (f64 5 10) (1 ∷ 1 ∷ 1 ∷ 5 ∷ 5 ∷ [])
  -- a clear scan is 30 bytes; 42 is by the bins alone, so of a clear scan too
  pub clear : export_of (no_radials 0xAF1F 0 5 []) 30
      ≡ accepted (
      0xFF ∷ 0xFF ∷ 0 ∷ 1 ∷ 0 ∷ 0 ∷ 0 ∷ 30 ∷ 0 ∷ 1 ∷ 0xFF ∷ 0xFF ∷ 0 ∷ 0 ∷ 0 ∷ 14
      ∷ 0 ∷ 16 ∷ 0 ∷ 0 ∷ 0 ∷ 5 ∷ 0 ∷ 0 ∷ 0 ∷ 0 ∷ 0 ∷ 1 ∷ 0 ∷ 0 ∷ []
      )
  pub clear_42 : export_of (no_radials 0xAF1F 0 65535 []) 0 ≡ refused (kind 42 [])
  -- a packet 16 body is 14 as soon as its code is read, even where it is too short
  pub is_14 : export_of (start 16) 0 ≡ refused (kind 14 (nat 16 ∷ []))
  -- 65,535 bins: 42, and not 19 for the missing radial; 17 comes first
  pub is_42 : export_of (start 0xAF1F ++ two 0 ++ two 65535 ++ replicate 4 0 ++ two 1 ++ two 1) 0 ≡ refused (kind 42 [])
  pub is_17 : export_of (start 0xAF1F ++ two 1 ++ two 65535 ++ replicate 4 0 ++ two 1 ++ two 1) 0 ≡ refused (kind 17 (nat 1 ∷ []))
  pub is_16 : export_of (start 0xAF1F ++ two 1 ++ two 65535 ++ replicate 4 0 ++ two 1 ++ two 62) 0 ≡ refused (kind 16 (nat 62 ∷ nat 65535 ∷ nat (62 * 65535) ∷ nat 4000000 ∷ []))

pub examples : Examples
unfolding export_of exportable export_head export_radial export_walk beam_bytes beams_bytes head_bytes packet16_body body_of picture_of joined run more after_row ◌>>=◌ ◌>>◌ remaining u16 u32 unread radial_data refuse_if u16_at u32_at signed symbology packet_of radial_packet packet_header first_bin over_body radial_walk radial frame covered count_wrong row_of row16 row_af1f reach cells centre width_degrees f32 f64 add div mul neg of_int
examples = record { bytes = refl; no_room = refl; again = refl; clear = refl; clear_42 = refl; is_14 = refl; is_42 = refl; is_17 = refl; is_16 = refl }
