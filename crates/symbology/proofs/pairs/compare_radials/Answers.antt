use Rattle.wire.proofs.Results.{returned}
use Rattle.symbology.proofs.PairWalk.{paired_first, paired_both, paired_stop, paired_turn, paired_noted, paired_end}
use Rattle.std.proofs.Common.{arith}
use Rattle.symbology.proofs.pairs.compare_radials.Goals as goal

pub loop-r-init : goal.loop-r-init
loop-r-init c = paired_first _ _ _ _ _ _ _ c.requires.0 c.requires.1

pub compare_radial-requires : goal.compare_radial-requires
compare_radial-requires c = let p = paired_both c.loop-r.invariant c.loop-r-test.true in (p.0, p.1)

pub returns-in_err-side : goal.returns-in_err-side
returns-in_err-side c = rw (returned c.from_residual.ensures.1) (paired_stop c.loop-r.invariant c.loop-r-test.true c.in_err-side.ensures)

pub loop-r-preserved : goal.loop-r-preserved
loop-r-preserved c = paired_turn c.loop-r.invariant c.loop-r-test.true c.in_ok-side.ensures c.note-noted.ensures

pub returns-in-Some : goal.returns-in-Some
returns-in-Some c = paired_noted c.loop-r.invariant (omega arith) c.in-Some.is

pub returns-in-None : goal.returns-in-None
returns-in-None c = paired_end c.loop-r.invariant (omega arith) c.in-None.is
