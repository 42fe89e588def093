use native.Mathlib.Omega.{arith}
use Rattle.fields.proofs.Writing.{writing_room, strip_inside, strip_has, strip_fits, no_malformed, writing_end}
use Rattle.fields.proofs.totals.Grid.write_totals.Goals as goal

pub bounds-out-fields : goal.bounds-out-fields
bounds-out-fields c = writing_room c.loop-e.invariant c.in-Some.ensures.steps c.in-Field.is

pub strip_total-requires : goal.strip_total-requires
strip_total-requires c = strip_inside c.loop-e.invariant c.in-Some.ensures.steps c.in-Strip.is

pub overflow_sub-out : goal.overflow_sub-out
overflow_sub-out c = (strip_has c.loop-e.invariant c.in-Some.ensures.steps c.in-Strip.is).0

pub bounds-out-fields-in-Strip : goal.bounds-out-fields-in-Strip
bounds-out-fields-in-Strip c = (strip_has c.loop-e.invariant c.in-Some.ensures.steps c.in-Strip.is).1

pub overflow_add-out : goal.overflow_add-out
overflow_add-out c = omega (arith, strip_fits c.loop-e.invariant c.in-Some.ensures.steps c.in-Strip.is c.strip_total.ensures.0 c.strip_total.ensures.1)

pub bounds-out-fields-in-Strip-2 : goal.bounds-out-fields-in-Strip-2
bounds-out-fields-in-Strip-2 c = (strip_has c.loop-e.invariant c.in-Some.ensures.steps c.in-Strip.is).1

pub loop-e-preserved : goal.loop-e-preserved
loop-e-preserved c = absurd (no_malformed c.loop-e.invariant c.in-Some.ensures.steps c.in-Malformed.is)

pub returns : goal.returns
returns c = writing_end c.loop-e.invariant c.in-None.ensures.steps.0
