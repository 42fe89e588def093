-- Document 01's lines P1 to P13, computed from the definitions. Assumes nothing.
use Prim.Native.Nat.{◌+◌, ◌^◌}
use mathlib.Core.Path.{refl}
use lib.Ieee.{add, div, mul, neg, of_int}
use borrow.Author.Tests.{le-ltb}
use native.Mathlib.Omega.{arith}
use Rattle.wire.specs.Bytes.{u16_at, u32_at, signed}
use Rattle.wire.specs.Float.{f32, f64}
use Rattle.wire.specs.Reading.{run, more, after_row, ◌>>=◌, ◌>>◌, remaining, u16, u32, unread, radial_data, refuse_if}
use Rattle.head.specs.Header.{scan_time}
use Rattle.xdr.specs.Xdr.{string, uint, word, short}
use Rattle.symbology.specs.Answers.{joined, picture_of}
use Rattle.symbology.specs.Centre.{centre, width_degrees}
use Rattle.symbology.specs.Rows.{row_of, row16, row_af1f, reach, cells}
use Rattle.symbology.specs.Symbology.{symbology, packet_of, radial_packet, packet_header, first_bin, over_body, radial_walk, radial, frame, covered, count_wrong, generic_packet, body_short, payload, product_block}
use Rattle.sweep.specs.Table.{Table}

pub table : Table
unfolding picture_of joined run more after_row ◌>>=◌ ◌>>◌ remaining u16 u32 unread radial_data refuse_if u16_at u32_at signed symbology packet_of radial_packet packet_header first_bin over_body radial_walk radial frame covered count_wrong row_of row16 row_af1f reach cells centre width_degrees generic_packet body_short payload product_block string uint word short scan_time f32 f64 add div mul neg of_int
table = record {
  p1 = refl;
  p2 = refl;
  p3 = refl;
  p4 = refl;
  p5 = refl;
  p6_passes = refl;
  p6_is_20 = refl;
  p7 = refl;
  p8 = refl;
  p9 = refl;
  p10 = refl;
  p11 = refl;
  p12 = λ largest trailing. refl;
  p13 = λ clock h. simp (le-ltb (2 ^ 40) clock h, le-ltb (clock + 86400) 0 (omega arith));
}
