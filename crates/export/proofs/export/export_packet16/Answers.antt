use native.Mathlib.Omega.{arith}
use borrow.Author.Rules.{rules}
use mathlib.Core.Path.{sym}
use lib.Seq.{length-take-le}
use Rattle.wire.proofs.Results.{returned}
use Rattle.export.proofs.Entry.{header_refused, header_small, radials_refused, radials_accepted, no_room, entry_done, room_left, size_small}
use Rattle.export.proofs.export.export_packet16.Goals as goal

pub size_of-size-requires : goal.size_of-size-requires
size_of-size-requires c = let z = header_small _ c.args.out.now c.in_ok-h.ensures (search rules) in (z.0, omega (arith, z.1))

pub returns-then-out-size : goal.returns-then-out-size
returns-then-out-size c = let k = no_room _ c.args.out.now c.in_ok-h.ensures c.in_ok-check.ensures c.size_of-size.ensures c.if-out-size.true in record { result_value = k.0; out_after = k.1 }

pub slice_bounds-write_header-end-2 : goal.slice_bounds-write_header-end-2
slice_bounds-write_header-end-2 c = sym (length-take-le 30 c.args.out.now (omega (arith, c.size_of-size.ensures, c.if-out-size.false)))

pub write_header-requires : goal.write_header-requires
write_header-requires c = let z = header_small _ c.args.out.now c.in_ok-h.ensures (search rules) in let y = size_small _ c.args.out.now c.in_ok-h.ensures c.in_ok-check.ensures c.size_of-size.ensures z.0 in record { part_len = (length-take-le 30 c.args.out.now (omega (arith, c.if-out-size.false, y.0)), y.0, y.1); n_radials_bound = (z.0, omega (arith, z.1)) }

pub write_radials-requires : goal.write_radials-requires
write_radials-requires c = let z = header_small _ c.args.out.now c.in_ok-h.ensures (search rules) in record { n_bins_bound = (z.1, radials_accepted _ c.args.out.now c.in_ok-h.ensures c.in_ok-check.ensures); n_bins_in_bounds = room_left _ c.args.out.now c.in_ok-h.ensures c.in_ok-check.ensures c.size_of-size.ensures c.if-out-size.false c.write_header.new.part (rw c.u32_at-kept.ensures at c.write_header.ensures) }

pub returns-in_err-h : goal.returns-in_err-h
returns-in_err-h c = let k = header_refused _ _ c.in_err-h.ensures in rw (returned c.from_residual.ensures.1) (record { result_value = k.0; out_after = k.1 })

pub returns-in_err-check : goal.returns-in_err-check
returns-in_err-check c =
    let k = radials_refused _ _ c.in_ok-h.ensures c.in_err-check.ensures in rw (returned c.from_residual-in_err-check.ensures.1) (record { result_value = k.0; out_after = k.1 })

pub returns : goal.returns
returns c =
    let k = entry_done _ c.args.out.now c.in_ok-h.ensures c.in_ok-check.ensures c.size_of-size.ensures c.if-out-size.false c.write_header.new.part c.write_radials.new.out (rw c.u32_at-kept.ensures at c.write_header.ensures) c.write_radials.ensures in
    record { result_value = k.0; out_after = k.1 }
