use Rattle.std.proofs.Common.{arith, rules}
use Rattle.archive.proofs.Tests.{standing_first, data_inside, standing_next}
use Rattle.archive.proofs.surplus.place_after.Goals as goal

pub loop-init : goal.loop-init
loop-init c = standing_first c.requires

pub overflow_add-at : goal.overflow_add-at
overflow_add-at c = record { fits = search (rules, data_inside c.loop.invariant (omega arith)) }

pub overflow_add-at-in-loop : goal.overflow_add-at-in-loop
overflow_add-at-in-loop c = record { fits = search (rules, data_inside c.loop.invariant (omega arith)) }

pub loop-preserved : goal.loop-preserved
loop-preserved c = standing_next c.loop.invariant c.u16_at-count.ensures c.covered_by.ensures
