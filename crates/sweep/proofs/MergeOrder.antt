-- Merging on small inputs, computed from the definitions. Assumes nothing.
use mathlib.Core.Path.{refl}
use lib.Ieee.{add, div, mul, le, rem, of_int, of_bits}
use Rattle.wire.specs.Bytes.{u16_at, u32_at, i16_at, i32_at, signed}
use Rattle.wire.specs.Float.{f32, f64}
use Rattle.wire.specs.Products.{codes, known}
use Rattle.wire.specs.Reading.{gaps, run, more, after_row, ◌>>=◌, ◌>>◌, remaining, u16, u32, unread, radial_data, refuse_if}
use Rattle.wire.specs.Text.{leading, trim_front, trim_end}
use Rattle.head.specs.Header.{token, cut, first_token, message_header, first_of, header_at, scan_time}
use Rattle.head.specs.Pdb.{pdb_fields, hw_i32, hw_i16, hw_u16, field_at}
use Rattle.scale.specs.Pdb.{value_scaling_linear_hw, threshold_place}
use Rattle.scale.specs.Physical.{scale_fields, declared_scale, physical_of, value_of}
use Rattle.xdr.specs.Xdr.{int, float, string, string_body, uint, word, short, pass, array_count, pointer, counted, list_head, elements, further, parameter}
use Rattle.symbology.specs.Answers.{joined, picture_of, shown}
use Rattle.symbology.specs.Centre.{centre, centre28}
use Rattle.symbology.specs.Rows.{row_of, row16, row_af1f, reach, cells, words, push, levels, row28}
use Rattle.symbology.specs.Symbology.{symbology, packet_of, radial_packet, packet_header, first_bin, over_body, radial_walk, radial, frame, covered, count_wrong, generic_packet, body_short, payload, product_block, component, component_head, xdr_radials, xdr_radial, xdr_walk, xdr_frame, only}
use Rattle.sweep.specs.Sweep.{head_of, allowed, room_for, finish, sweep_of}
use Rattle.sweep.specs.GapSweep.{gap_finish, blanked}
use Rattle.wire.specs.SameFloat.{same_float}
use Rattle.symbology.specs.Merge.{same_figures, same_floats, disagree, agreed, either, merge_rows, merged_of}
use Rattle.sweep.specs.MergeSweep.{readied, merge_sweep_of}
use Rattle.sweep.specs.MergeOrder.{MergeOrder}

pub merge_order : MergeOrder
unfolding threshold_place merge_sweep_of readied merged_of same_figures same_floats same_float disagree agreed either merge_rows gap_finish blanked shown gaps row_af1f reach cells sweep_of head_of finish allowed room_for token cut first_token leading trim_front trim_end message_header first_of header_at known codes scan_time pdb_fields hw_i32 hw_i16 hw_u16 field_at i32_at i16_at u32_at u16_at signed value_scaling_linear_hw scale_fields declared_scale physical_of value_of picture_of joined run more after_row ◌>>=◌ ◌>>◌ remaining u16 u32 unread radial_data refuse_if symbology packet_of radial_packet packet_header first_bin over_body radial_walk radial frame covered count_wrong row_of row16 centre centre28 generic_packet body_short payload product_block component component_head xdr_radials xdr_radial xdr_walk xdr_frame only int float string string_body uint word short pass array_count pointer counted list_head elements further parameter row28 words push levels f32 f64 add div mul le rem of_int of_bits
merge_order = record { first_gap = refl; second_gap = refl; both_gap = refl; same_codes = refl; other_codes = refl; other_centre = refl; other_packet = refl; second_14 = refl; no_marks = refl; second_10 = refl; both_clear = refl; one_clear = refl }
