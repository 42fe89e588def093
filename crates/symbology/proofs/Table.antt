-- The table's bodies, computed from the definitions. Assumes nothing.
use Rattle.std.proofs.Common.{refl}
use lib.Ieee.{add, div, rem, neg, of_int, of_bits}
use Rattle.wire.specs.Bytes.{u16_at, u32_at, signed}
use Rattle.wire.specs.Float.{f32, f64}
use Rattle.wire.specs.Reading.{run, more, after_row, pieces, ◌>>=◌, ◌>>◌, remaining, u16, u32, unread, radial_data, refuse_if}
use Rattle.xdr.specs.Xdr.{int, float, string, string_body, uint, word, short, pass, array_count, pointer, counted, list_head, elements, further, parameter}
use Rattle.symbology.specs.Answers.{joined, picture_of}
use Rattle.symbology.specs.Centre.{centre, centre28}
use Rattle.symbology.specs.Rows.{row_of, row_af1f, reach, cells, words, push, levels, row28}
use Rattle.symbology.specs.Symbology.{symbology, packet_of, radial_packet, packet_header, first_bin, over_body, radial_walk, radial, frame, covered, count_wrong, generic_packet, body_short, payload, product_block, component, component_head, xdr_radials, xdr_radial, xdr_walk, xdr_frame, only}
use Rattle.symbology.specs.Table.{Runs, ClearScans, Centres28, Generic}

pub runs : Runs
unfolding picture_of joined run more after_row ◌>>=◌ ◌>>◌ remaining u16 u32 unread radial_data refuse_if u16_at u32_at signed symbology packet_of radial_packet packet_header first_bin over_body radial_walk radial frame covered count_wrong row_of row_af1f reach cells centre f64 add div of_int
runs = record { zero_run = refl }

pub clear_scans : ClearScans
unfolding picture_of joined run more after_row ◌>>=◌ ◌>>◌ remaining u16 u32 unread radial_data refuse_if u16_at u32_at signed symbology packet_of radial_packet packet_header first_bin over_body radial_walk
clear_scans = record { packet_16 = refl; packet_af1f = refl; later_bytes = refl; is_15 = refl; is_15_too = refl; is_17 = refl }

pub centres28 : Centres28
unfolding centre28 f32 f64 add div rem neg
centres28 = record { wraps = refl; below_0 = refl; minus_0 = refl; stays_nan = refl }

pub generic : Generic
unfolding picture_of joined run more after_row pieces ◌>>=◌ ◌>>◌ remaining u16 u32 unread radial_data refuse_if u16_at u32_at signed symbology packet_of generic_packet body_short payload product_block component component_head xdr_radials xdr_radial xdr_walk xdr_frame only int float string string_body uint word short pass array_count pointer counted list_head elements further parameter row_of row28 words push levels centre28 f32 f64 add div rem of_int of_bits
generic = record {
  two_radials = refl;
  with_parameters = refl;
  is_34 = refl;
  is_31 = refl;
  is_28 = refl;
  is_27 = refl;
  read_unread_data = refl;
}
