use Rattle.std.proofs.Common.{◌-◌}
use Rattle.xdr.specs.Xdr.{counted, further, parameter}
use Rattle.xdr.specs.Cursor.{done, read_at}
use Rattle.xdr.proofs.Chains.{Onward}
use Rattle.xdr.proofs.xdr.XdrCursor.skip_parameters.Given as goal

abbrev pub invariant-loop : goal.invariant-loop
invariant-loop l = Onward (done (read_at (further parameter (l.n - l.counter)) l.self)) l.self (done (read_at (counted parameter) l.fn.self)) l.fn.self
