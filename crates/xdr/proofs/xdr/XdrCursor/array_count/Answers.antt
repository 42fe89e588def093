use Rattle.std.proofs.Common.{rules, refl, ◌*◌}
use borrow.Author.Tests.{lt-ltb, le-ltb}
use Rattle.wire.specs.Reading.{give, ◌>>◌}
use Rattle.wire.specs.declared.error.XdrItem.TheVariants as Item
use Rattle.xdr.specs.Xdr.{short, uint, array_count}
use Rattle.wire.proofs.Results.{returned}
use Rattle.xdr.proofs.Items.{short_cut, short_passed}
use Rattle.xdr.proofs.Chains.{tested, given, go_on, go_no, by_on, by_no, let_on, let_no}
use Rattle.xdr.proofs.xdr.XdrCursor.array_count.Goals as goal

pub returns-in_err-len : goal.returns-in_err-len
unfolding array_count
returns-in_err-len c = rw (returned c.from_residual.ensures.1) (go_no uint _ c.in_err-len.ensures)

pub returns-then-len-gt-MAX_XDR_ARRAY_LEN : goal.returns-then-len-gt-MAX_XDR_ARRAY_LEN
unfolding array_count
returns-then-len-gt-MAX_XDR_ARRAY_LEN c = go_on uint _ c.in_ok-len.ensures (let_no _ (short Item.ArrayBody (c.in_ok-len.len * 4) >> give c.in_ok-len.len) (lt-ltb _ _ c.if-len-gt-MAX_XDR_ARRAY_LEN.true) refl)

pub returns-then-left-n : goal.returns-then-left-n
unfolding array_count
returns-then-left-n c =
    go_on uint _ c.in_ok-len.ensures
    (let_on _ (short Item.ArrayBody (c.in_ok-len.len * 4) >> give c.in_ok-len.len) (le-ltb _ _ c.if-len-gt-MAX_XDR_ARRAY_LEN.false)
    (by_no (short Item.ArrayBody (c.in_ok-len.len * 4)) (give c.in_ok-len.len) (tested _ (short_cut _ _ _ _ _ (search) (search rules)))))

pub returns : goal.returns
unfolding array_count
returns c =
    go_on uint _ c.in_ok-len.ensures
    (let_on _ (short Item.ArrayBody (c.in_ok-len.len * 4) >> give c.in_ok-len.len) (le-ltb _ _ c.if-len-gt-MAX_XDR_ARRAY_LEN.false)
    (by_on (short Item.ArrayBody (c.in_ok-len.len * 4)) (give c.in_ok-len.len)
    (tested _ (short_passed _ _ _ _ _ c.bytes_remaining-left.ensures c.if-left-n.false)) (given refl)))
