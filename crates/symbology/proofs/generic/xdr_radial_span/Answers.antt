use Rattle.symbology.proofs.XdrFrames.{framed, span_whole, span_halted}
use Rattle.wire.proofs.Results.{returned}
use Rattle.std.proofs.Common.{arith}
use Rattle.symbology.proofs.generic.xdr_radial_span.Goals as goal

pub returns-in_err-radial : goal.returns-in_err-radial
returns-in_err-radial c = rw (returned c.from_residual.ensures.1) (span_halted _ _ _ _ _ (rw c.from-c.ensures at c.in_err-radial.ensures.answered))

pub overflow_mul-result : goal.overflow_mul-result
overflow_mul-result c = let k = framed _ _ _ _ _ _ _ (rw c.from-c.ensures at c.in_ok-radial.ensures.answered) in record { fits = omega (arith, k.room, k.inside) }

pub overflow_add-result : goal.overflow_add-result
overflow_add-result c = let k = framed _ _ _ _ _ _ _ (rw c.from-c.ensures at c.in_ok-radial.ensures.answered) in record { fits = omega (arith, k.room, k.inside, c.position-from.ensures) }

pub returns : goal.returns
returns c = rw c.position-from.ensures (span_whole _ _ _ _ _ (rw c.from-c.ensures at c.in_ok-radial.ensures.answered))
