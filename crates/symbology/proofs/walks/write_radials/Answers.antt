use Rattle.std.proofs.Common.{arith, rules}
use Rattle.symbology.proofs.Showing.{marks_first, marks_room, marks_next, marks_end}
use Rattle.symbology.proofs.Writing.{written_first, written_radial, written_room, written_part, written_next, written_centres, written_rows}
use Rattle.symbology.proofs.walks.write_radials.Goals as goal

pub loop-radial-init : goal.loop-radial-init
loop-radial-init c = (c.requires.radials_accepted, (written_first _ _ _ _ _ _ _ _ c.requires.radials_accepted c.requires.n_radials_in_bounds.0 c.requires.n_radials_in_bounds.1, marks_first _ _ _ _ _ _ _ c.requires.radials_accepted c.requires.n_radials_in_bounds.2))

pub overflow_add-end : goal.overflow_add-end
overflow_add-end c = let h = written_room _ _ _ _ _ c.loop-radial.invariant.1.0 c.loop-radial-test.true in record { fits = omega (arith, h.1) }

pub slice_bounds-write_radial-end : goal.slice_bounds-write_radial-end
slice_bounds-write_radial-end c = (written_room _ _ _ _ _ c.loop-radial.invariant.1.0 c.loop-radial-test.true).1

pub write_radial-w-requires : goal.write_radial-w-requires
write_radial-w-requires c = rw (written_part _ _ _ _ _ c.loop-radial.invariant.1.0 c.loop-radial-test.true) (search rules, written_radial _ _ _ _ _ c.loop-radial.invariant.1.0 c.loop-radial-test.true)

pub bounds-azimuths-radial : goal.bounds-azimuths-radial
bounds-azimuths-radial c = (written_room _ _ _ _ _ c.loop-radial.invariant.1.0 c.loop-radial-test.true).0

pub put_mark-requires : goal.put_mark-requires
put_mark-requires c = marks_room _ _ _ _ _ c.loop-radial.invariant.1.1 c.loop-radial-test.true

pub loop-radial-preserved : goal.loop-radial-preserved
loop-radial-preserved c = let e₀ = c.write_radial-w.ensures.next_value in (c.loop-radial.invariant.0, (written_next _ _ _ _ _ c.loop-radial.invariant.1.0 c.loop-radial-test.true e₀ c.write_radial-w.ensures.row_after, marks_next _ _ _ _ _ c.loop-radial.invariant.1.1 c.loop-radial-test.true e₀ c.write_radial-w.ensures.mark_value c.put_mark.ensures))

pub returns : goal.returns
returns c = rw c.loop-radial.invariant.0.1 (record { azimuths_after = written_centres _ _ _ _ _ c.loop-radial.invariant.1.0 (omega arith); codes_after = written_rows _ _ _ _ _ c.loop-radial.invariant.1.0 (omega arith); marks_after = marks_end _ _ _ _ _ c.loop-radial.invariant.1.1 (omega arith) })
