use Rattle.std.proofs.Common.{refl, ap₂, ◌∙◌, ◌-◌, length}
use Rattle.wire.specs.Reading.{walk}
use Rattle.xdr.specs.Xdr.{int, uint, float, string, int_array, list_head, parameter, counted}
use Rattle.xdr.specs.Cursor.{string_part, array_part, done}
use Rattle.xdr.specs.Each.{uint_at, float_at, string_at, array_at, head_at, list_at, end_at}
use Rattle.xdr.proofs.Places.{Stands, item, next, end_string, end_array, end_list}
use Rattle.xdr.proofs.each.read_each.Goals as goal

pub returns : goal.returns
returns c =
    let s0 : Stands c.args.payload.now 0 c.new-c.result = rw c.new-c.ensures (record { payload = refl; place = refl }) in
    let s1 : Stands c.args.payload.now (uint_at c.args.payload.now) c.unpack_int-answer.new.self = next (walk int) s0 c.unpack_int-answer.ensures refl in
    let s2 : Stands c.args.payload.now (float_at c.args.payload.now) c.unpack_uint-answer.new.self = next (walk uint) s1 c.unpack_uint-answer.ensures refl in
    let s3 : Stands c.args.payload.now (string_at c.args.payload.now) c.unpack_float-answer.new.self = next (walk float) s2 c.unpack_float-answer.ensures refl in
    let s4 : Stands c.args.payload.now (array_at c.args.payload.now) c.unpack_string-answer.new.self = next (λ s p. string_part s p (walk string s p)) s3 c.unpack_string-answer.ensures (end_string c.args.payload.now (string_at c.args.payload.now)) in
    let s5 : Stands c.args.payload.now (head_at c.args.payload.now) c.unpack_int_array-answer.new.self = next (λ s p. array_part p (walk int_array s p)) s4 c.unpack_int_array-answer.ensures (end_array c.args.payload.now (array_at c.args.payload.now)) in
    let s6 : Stands c.args.payload.now (list_at c.args.payload.now) c.list_head-answer.new.self = next (walk list_head) s5 c.list_head-answer.ensures refl in
    let s7 : Stands c.args.payload.now (end_at c.args.payload.now) c.skip_parameters-answer.new.self = next (λ s p. done (walk (counted parameter) s p)) s6 c.skip_parameters-answer.ensures (end_list c.args.payload.now (list_at c.args.payload.now)) in
    record {
      int_read = item (walk int) s0 c.unpack_int-answer.ensures c.position.ensures;
      uint_read = item (walk uint) s1 c.unpack_uint-answer.ensures c.position-2.ensures;
      float_read = item (walk float) s2 c.unpack_float-answer.ensures c.position-3.ensures;
      string_read = item (λ s p. string_part s p (walk string s p)) s3 c.unpack_string-answer.ensures c.position-4.ensures;
      array_read = item (λ s p. array_part p (walk int_array s p)) s4 c.unpack_int_array-answer.ensures c.position-5.ensures;
      head_read = item (walk list_head) s5 c.list_head-answer.ensures c.position-6.ensures;
      list_read = item (λ s p. done (walk (counted parameter) s p)) s6 c.skip_parameters-answer.ensures c.position-7.ensures;
      left_over = c.bytes_remaining.ensures ∙ ap₂ (λ t p. length t - p) s7.payload s7.place;
    }
