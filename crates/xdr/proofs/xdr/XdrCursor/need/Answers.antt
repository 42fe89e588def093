use Rattle.std.proofs.Common.{rules}
use Rattle.xdr.proofs.Items.{short_cut, short_passed}
use Rattle.xdr.proofs.xdr.XdrCursor.need.Goals as goal

pub returns-then-have-need : goal.returns-then-have-need
returns-then-have-need c = short_cut _ _ _ _ _ (search) (search rules)

pub returns : goal.returns
returns c = short_passed _ _ _ _ _ c.bytes_remaining-have.ensures c.if-have-need.false
