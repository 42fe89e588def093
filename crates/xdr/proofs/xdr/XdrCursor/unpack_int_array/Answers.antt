use Rattle.std.proofs.Common.{arith, refl, ap, ◌*◌, ◌+◌}
use Rattle.wire.specs.Reading.{give, unread}
use Rattle.xdr.specs.Xdr.{array_count, int_array}
use Rattle.wire.proofs.Results.{returned}
use Rattle.xdr.proofs.Chains.{given, passed_over, part_no, part_on, go_on, go_no, by_on}
use Rattle.xdr.proofs.Items.{array_count_end}
use Rattle.xdr.proofs.xdr.XdrCursor.unpack_int_array.Goals as goal

pub returns-in_err-len : goal.returns-in_err-len
unfolding int_array
returns-in_err-len c = rw (returned c.from_residual.ensures.1) (part_no _ (go_no array_count _ c.in_err-len.ensures))

pub overflow_mul-self : goal.overflow_mul-self
overflow_mul-self c = let e = array_count_end _ _ _ _ c.in_ok-len.ensures.answered in record { fits = omega (arith, e.1, e.2) }

pub overflow_add-self : goal.overflow_add-self
overflow_add-self c = let e = array_count_end _ _ _ _ c.in_ok-len.ensures.answered in record { fits = omega (arith, e.1, e.2) }

pub returns : goal.returns
unfolding int_array
returns c = part_on (λ n. record { start = c.args.self.now.pos + 4; len = n }) (go_on array_count _ c.in_ok-len.ensures (by_on (unread (c.in_ok-len.len * 4)) (give c.in_ok-len.len) (passed_over _) (given refl))) (ap (λ k. record { start = k; len = c.in_ok-len.len }) (array_count_end _ _ _ _ c.in_ok-len.ensures.answered).0)
