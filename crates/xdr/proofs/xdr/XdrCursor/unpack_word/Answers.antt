use Rattle.std.proofs.Common.{arith}
use Rattle.wire.specs.Reading.{u32}
use Rattle.xdr.specs.Xdr.{short, word}
use Rattle.wire.proofs.Results.{returned}
use Rattle.xdr.proofs.Chains.{tested, word_read, by_on, by_no}
use Rattle.xdr.proofs.Items.{short_room}
use Rattle.xdr.proofs.xdr.XdrCursor.unpack_word.Goals as goal

pub returns-in_err-need : goal.returns-in_err-need
unfolding word
returns-in_err-need c = rw (returned c.from_residual.ensures.1) (by_no (short c.args.item 4) u32 (tested _ c.in_err-need.ensures))

pub overflow_add-self : goal.overflow_add-self
overflow_add-self c = record { fits = omega (arith, short_room _ _ _ _ _ c.in_ok-need.ensures) }

pub returns : goal.returns
unfolding word
returns c = by_on (short c.args.item 4) u32 (tested _ c.in_ok-need.ensures) (word_read c.u32_at-value.ensures)
