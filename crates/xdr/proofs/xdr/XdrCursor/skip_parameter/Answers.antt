use Rattle.std.proofs.Common.{refl}
use Rattle.wire.specs.Reading.{give, ◌>>◌}
use Rattle.xdr.specs.Xdr.{string, parameter}
use Rattle.wire.proofs.Results.{returned}
use Rattle.xdr.proofs.Chains.{given, by_on, by_no}
use Rattle.xdr.proofs.xdr.XdrCursor.skip_parameter.Goals as goal

pub returns-in_err-skip_string : goal.returns-in_err-skip_string
unfolding parameter
returns-in_err-skip_string c = rw (returned c.from_residual.ensures.1) (by_no string (string >> give tt) c.in_err-skip_string.ensures)

pub returns-in_err-skip_string-2 : goal.returns-in_err-skip_string-2
unfolding parameter
returns-in_err-skip_string-2 c = rw (returned c.from_residual-in_err-skip_string-2.ensures.1) (by_on string (string >> give tt) c.in_ok-skip_string.ensures (by_no string (give tt) c.in_err-skip_string-2.ensures))

pub returns : goal.returns
unfolding parameter
returns c = by_on string (string >> give tt) c.in_ok-skip_string.ensures (by_on string (give tt) c.in_ok-skip_string-2.ensures (given refl))
