use Rattle.std.proofs.Common.{arith, rules}
use Rattle.archive.proofs.Tests.{data_inside, exacting_first, exacting_stop, exacting_next, exacting_end}
use Rattle.archive.proofs.surplus.test_beams.Goals as goal

pub loop-r-init : goal.loop-r-init
loop-r-init c = exacting_first c.requires

pub overflow_add-from : goal.overflow_add-from
overflow_add-from c = record { fits = search (rules, data_inside c.loop-r.invariant.stands (omega arith)) }

pub overflow_add-to : goal.overflow_add-to
overflow_add-to c = record { fits = search (rules, data_inside c.loop-r.invariant.stands (omega arith)) }

pub slice_bounds-is_surplus-end : goal.slice_bounds-is_surplus-end
slice_bounds-is_surplus-end c = search (rules, data_inside c.loop-r.invariant.stands (omega arith))

pub returns-then-is_surplus : goal.returns-then-is_surplus
returns-then-is_surplus c =
    exacting_stop c.loop-r.invariant (omega arith) c.u16_at-count.ensures c.covered_by.ensures c.is_surplus.ensures c.if-is_surplus.true

pub loop-r-preserved : goal.loop-r-preserved
loop-r-preserved c =
    exacting_next c.loop-r.invariant (omega arith) c.u16_at-count.ensures c.covered_by.ensures c.is_surplus.ensures c.if-is_surplus.false

pub returns : goal.returns
returns c = exacting_end c.loop-r.invariant c.loop-r-test.false
