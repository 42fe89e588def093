-- The order of the tests, computed from the definitions. Assumes nothing.
use mathlib.Core.Path.{refl}
use lib.Ieee.{add, div, mul, le, rem, of_int, of_bits}
use Rattle.wire.specs.Bytes.{u16_at, u32_at, i16_at, i32_at, signed}
use Rattle.wire.specs.Float.{f32, f64, f32_at}
use Rattle.wire.specs.Products.{codes, known}
use Rattle.wire.specs.Reading.{run, more, after_row, ◌>>=◌, ◌>>◌, remaining, u16, u32, unread, radial_data, refuse_if}
use Rattle.wire.specs.Text.{leading, trim_front, trim_end}
use Rattle.head.specs.Header.{token, cut, first_token, message_header, first_of, header_at, scan_time}
use Rattle.head.specs.Pdb.{pdb_fields, hw_i32, hw_i16, hw_u16, hw_pair, field_at}
use Rattle.scale.specs.Pdb.{value_scaling_linear_hw, scale_pair, precip_family_scale}
use Rattle.scale.specs.Physical.{scale_fields, declared_scale, physical_of, value_of}
use Rattle.xdr.specs.Xdr.{int, float, string, string_body, uint, word, short, pass, array_count, pointer, counted, list_head, elements, further, parameter}
use Rattle.symbology.specs.Answers.{joined, picture_of}
use Rattle.symbology.specs.Centre.{centre, centre28}
use Rattle.symbology.specs.Rows.{row_of, row16, words, push, levels, row28}
use Rattle.symbology.specs.Symbology.{symbology, packet_of, radial_packet, packet_header, first_bin, over_body, radial_walk, radial, frame, covered, count_wrong, generic_packet, body_short, payload, product_block, component, component_head, xdr_radials, xdr_radial, xdr_walk, xdr_frame, only}
use Rattle.sweep.specs.Sweep.{head_of, allowed, room_for, finish, sweep_of}
use lib.Ieee.{neg, eq}
use Rattle.fields.specs.Plan.{record_at, entries_in, entries_from, bad_at, repeated_at, outside_at, field_count, plan_of}
use Rattle.fields.specs.Totals.{counts, sum, strip_total, own_total, totals}
use Rattle.fields.specs.Fields.{rain_of, planned, totals_of}
use Rattle.fields.specs.Order.{Order}

pub order : Order
unfolding totals_of rain_of planned plan_of entries_from entries_in record_at bad_at repeated_at outside_at field_count counts sum strip_total own_total totals scale_pair precip_family_scale hw_pair f32_at neg eq sweep_of head_of finish allowed room_for token cut first_token leading trim_front trim_end message_header first_of header_at known codes scan_time pdb_fields hw_i32 hw_i16 hw_u16 field_at i32_at i16_at u32_at u16_at signed value_scaling_linear_hw scale_fields declared_scale physical_of value_of picture_of joined run more after_row ◌>>=◌ ◌>>◌ remaining u16 u32 unread radial_data refuse_if symbology packet_of radial_packet packet_header first_bin over_body radial_walk radial frame covered count_wrong row_of row16 centre centre28 generic_packet body_short payload product_block component component_head xdr_radials xdr_radial xdr_walk xdr_frame only int float string string_body uint word short pass array_count pointer counted list_head elements further parameter row28 words push levels f32 f64 add div mul le rem of_int of_bits
order = record {
  scheme_first = refl;
  body_before_scheme = refl;
  sweep_before_plan = refl;
  malformed_first = refl;
  repeated_next = refl;
  outside_next = refl;
  totals_last = refl;
  all_passed = refl;
  clear_strip = refl;
  clear_fields = refl;
}
