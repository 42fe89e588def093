use Rattle.std.proofs.Common.{rules, ◌∙◌}
use Rattle.wire.specs.declared.error.XdrItem.TheVariants as Item
use Rattle.xdr.specs.Xdr.{word, int}
use Rattle.wire.proofs.Results.{returned}
use Rattle.xdr.proofs.Chains.{given, go_on, go_no}
use mir.Syntax.{w32}
use mir.Facts.{to_z-of_z}
use Rattle.xdr.proofs.xdr.XdrCursor.unpack_int.Goals as goal

pub returns-in_err-value : goal.returns-in_err-value
unfolding int
returns-in_err-value c = rw (returned c.from_residual.ensures.1) (go_no (word Item.Int) _ c.in_err-value.ensures)

pub returns : goal.returns
unfolding int
returns c = go_on (word Item.Int) _ c.in_ok-value.ensures (given (to_z-of_z {w = w32} {z = c.as_i32.result} (search rules) ∙ c.as_i32.ensures))
