use Rattle.wire.proofs.Results.{returned}
use Rattle.symbology.proofs.Payload.{next_refused, next_at, next_none}
use Rattle.symbology.specs.Symbology.{component}
use Rattle.symbology.specs.Walk.{in_mode, position}
use Rattle.wire.specs.Reading.{walk}
use Rattle.xdr.specs.Xdr.{further}
use Rattle.std.proofs.Common.{◌≡◌, ◌-◌, sym, ap, ◌∙◌, arith}
use Rattle.symbology.proofs.components.further_components.Goals as goal

pub loop-init : goal.loop-init
loop-init c = let e : c.args.n ≡ c.args.n - 0 = omega arith in ap (λ k. position (walk (in_mode c.args.gaps (further component k)) c.args.buf.now c.args.start)) e

pub returns-in_err-at : goal.returns-in_err-at
returns-in_err-at c = rw (returned c.from_residual.ensures.1) (next_refused _ component _ _ _ (omega arith) c.in_err-at.ensures ∙ sym c.loop.invariant)

pub loop-preserved : goal.loop-preserved
loop-preserved c = c.loop.invariant ∙ next_at _ component _ _ (omega arith) c.in_ok-at.ensures

pub returns : goal.returns
returns c = next_none _ component _ _ _ (omega arith) ∙ sym c.loop.invariant
