use Rattle.std.proofs.Common.{refl}
use borrow.Author.Tests.{lt-ltb, le-ltb}
use Rattle.wire.specs.Reading.{give, ◌>>◌}
use Rattle.wire.specs.declared.error.XdrItem.TheVariants as Item
use Rattle.xdr.specs.Xdr.{pass, uint, padding, string_body, string}
use Rattle.wire.proofs.Results.{returned}
use Rattle.xdr.proofs.Chains.{given, go_on, go_no, by_on, by_no, let_on, let_no}
use Rattle.xdr.proofs.xdr.XdrCursor.skip_string.Goals as goal

pub returns-in_err-len : goal.returns-in_err-len
unfolding string
returns-in_err-len c = rw (returned c.from_residual.ensures.1) (go_no uint _ c.in_err-len.ensures)

pub returns-then-len-gt-MAX_XDR_STRING_LEN : goal.returns-then-len-gt-MAX_XDR_STRING_LEN
unfolding string
returns-then-len-gt-MAX_XDR_STRING_LEN c = go_on uint _ c.in_ok-len.ensures (let_no _ (string_body c.in_ok-len.len >> give c.in_ok-len.len) (lt-ltb _ _ c.if-len-gt-MAX_XDR_STRING_LEN.true) refl)

pub returns-in_err-skip : goal.returns-in_err-skip
unfolding string string_body
returns-in_err-skip c = rw (returned c.from_residual-in_err-skip.ensures.1) (go_on uint _ c.in_ok-len.ensures (let_on _ (string_body c.in_ok-len.len >> give c.in_ok-len.len) (le-ltb _ _ c.if-len-gt-MAX_XDR_STRING_LEN.false) (by_no (string_body c.in_ok-len.len) (give c.in_ok-len.len) (by_no (pass Item.StringBody c.in_ok-len.len) (pass Item.Padding (padding c.in_ok-len.len)) c.in_err-skip.ensures))))

pub returns-in_err-skip-2 : goal.returns-in_err-skip-2
unfolding string string_body
returns-in_err-skip-2 c = rw (returned c.from_residual-in_err-skip-2.ensures.1) (go_on uint _ c.in_ok-len.ensures (let_on _ (string_body c.in_ok-len.len >> give c.in_ok-len.len) (le-ltb _ _ c.if-len-gt-MAX_XDR_STRING_LEN.false) (by_no (string_body c.in_ok-len.len) (give c.in_ok-len.len) (by_on (pass Item.StringBody c.in_ok-len.len) (pass Item.Padding (padding c.in_ok-len.len)) c.in_ok-skip.ensures c.in_err-skip-2.ensures))))

pub returns : goal.returns
unfolding string string_body
returns c = go_on uint _ c.in_ok-len.ensures (let_on _ (string_body c.in_ok-len.len >> give c.in_ok-len.len) (le-ltb _ _ c.if-len-gt-MAX_XDR_STRING_LEN.false) (by_on (string_body c.in_ok-len.len) (give c.in_ok-len.len) (by_on (pass Item.StringBody c.in_ok-len.len) (pass Item.Padding (padding c.in_ok-len.len)) c.in_ok-skip.ensures c.in_ok-skip-2.ensures) (given refl)))
