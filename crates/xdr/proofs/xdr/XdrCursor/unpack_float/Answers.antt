use Rattle.wire.specs.declared.error.XdrItem.TheVariants as Item
use Rattle.xdr.specs.Xdr.{word, float}
use Rattle.wire.proofs.Results.{returned}
use Rattle.xdr.proofs.Chains.{given, go_on, go_no}
use Rattle.xdr.proofs.xdr.XdrCursor.unpack_float.Goals as goal

pub returns-in_err-value : goal.returns-in_err-value
unfolding float
returns-in_err-value c = rw (returned c.from_residual.ensures.1) (go_no (word Item.Float) _ c.in_err-value.ensures)

pub returns : goal.returns
unfolding float
returns c = go_on (word Item.Float) _ c.in_ok-value.ensures (given c.f32_from_bits.ensures)
