use Rattle.xdr.specs.Xdr.{uint}
use Rattle.xdr.proofs.xdr.XdrCursor.unpack_uint.Goals as goal

pub returns : goal.returns
unfolding uint
returns c = c.unpack_word.ensures
