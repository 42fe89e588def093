use Rattle.std.proofs.Common.{arith, ◌-◌, ◌+◌, ◌≡◌}
use Rattle.wire.proofs.Results.{returned}
use Rattle.xdr.specs.Xdr.{parameter}
use Rattle.xdr.proofs.Chains.{list_no, list_none, list_stop, list_first, further_no, further_stop, further_more, further_none}
use Rattle.xdr.proofs.xdr.XdrCursor.skip_parameters.Goals as goal

pub returns-in_err-n : goal.returns-in_err-n
returns-in_err-n c = rw (returned c.from_residual.ensures.1) (list_no parameter c.in_err-n.ensures)

pub returns-then-n-eq0 : goal.returns-then-n-eq0
returns-then-n-eq0 c = list_none parameter c.in_ok-n.ensures c.if-n-eq0.true

pub returns-in_err-skip_parameter : goal.returns-in_err-skip_parameter
returns-in_err-skip_parameter c = rw (returned c.from_residual-in_err-skip_parameter.ensures.1) (list_stop parameter c.in_ok-n.ensures c.if-n-eq0.false c.in_err-skip_parameter.ensures)

pub loop-init : goal.loop-init
loop-init c = list_first parameter c.in_ok-n.ensures c.if-n-eq0.false c.in_ok-skip_parameter.ensures

pub returns-in_err-skip : goal.returns-in_err-skip
returns-in_err-skip c =
    rw (returned c.from_residual-in_err-skip.ensures.1) (c.loop.invariant _ _ (further_no parameter (omega arith) c.in_err-skip.ensures))

pub returns-in_err-skip_parameter-2 : goal.returns-in_err-skip_parameter-2
returns-in_err-skip_parameter-2 c =
    rw (returned c.from_residual-in_err-skip_parameter-2.ensures.1)
    (c.loop.invariant _ _ (further_stop parameter (omega arith) c.in_ok-skip.ensures c.in_err-skip_parameter-2.ensures))

pub loop-preserved : goal.loop-preserved
loop-preserved c r d k =
    let e : c.in_ok-n.n - c.loop.counter - 1 ≡ c.in_ok-n.n - (c.loop.counter + 1) = omega arith in
    c.loop.invariant r d (further_more parameter (omega arith) c.in_ok-skip.ensures c.in_ok-skip_parameter-2.ensures r d (rw e k))

pub returns : goal.returns
returns c = c.loop.invariant _ _ (further_none parameter (omega arith))
