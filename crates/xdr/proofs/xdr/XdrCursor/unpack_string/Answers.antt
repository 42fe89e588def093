use Rattle.std.proofs.Common.{rules, arith, ap, ◌∙◌, ◌+◌, length}
use Rattle.xdr.specs.Cursor.{trimmed_part}
use Rattle.wire.proofs.Results.{returned}
use Rattle.xdr.proofs.Chains.{part_no, part_on}
use Rattle.wire.specs.Text.{is_zero, trim_end}
use Rattle.wire.proofs.Readings.{part_slice}
use Rattle.xdr.proofs.Items.{string_inside}
use Rattle.xdr.proofs.xdr.XdrCursor.unpack_string.Goals as goal

pub returns-in_err-n : goal.returns-in_err-n
returns-in_err-n c = rw (returned c.from_residual.ensures.1) (part_no (trimmed_part _ _) c.in_err-n.ensures)

pub overflow_add-start : goal.overflow_add-start
overflow_add-start c = let e = string_inside _ _ _ _ c.in_ok-n.ensures.answered in record { fits = omega (arith, e.0) }

pub overflow_add-end : goal.overflow_add-end
overflow_add-end c = let e = string_inside _ _ _ _ c.in_ok-n.ensures.answered in record { fits = omega (arith, e.0, e.1) }

pub slice_bounds-trimmed_len-end : goal.slice_bounds-trimmed_len-end
slice_bounds-trimmed_len-end c = let e = string_inside _ _ _ _ c.in_ok-n.ensures.answered in search (rules, e.0, e.1)

pub returns : goal.returns
returns c = part_on (trimmed_part _ _) c.in_ok-n.ensures (ap (λ l. record { start = c.args.self.now.pos + 4; len = l }) (c.trimmed_len-len.ensures ∙ ap (λ t. length (trim_end is_zero t)) (part_slice c.args.self.now.buf.now (c.args.self.now.pos + 4) (c.args.self.now.pos + 4 + c.in_ok-n.n) (omega arith))))
