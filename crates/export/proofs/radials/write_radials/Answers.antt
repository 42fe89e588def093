use Rattle.export.proofs.Laying.{laying_first, here, laying_room, laying_part, laying_next, laying_end}
use mathlib.Core.Path.{refl}
use native.Mathlib.Omega.{arith}
use Rattle.export.proofs.radials.write_radials.Goals as goal

pub loop-init : goal.loop-init
loop-init c = (refl, (c.requires.n_bins_bound.1, laying_first _ _ _ _ c.requires.n_bins_bound.1 c.requires.n_bins_in_bounds))

pub overflow_add-end : goal.overflow_add-end
overflow_add-end c = let h = laying_room _ _ _ c.loop.invariant.1.1 (omega arith) in record { fits = omega (arith, h) }

pub slice_bounds-write_radial-end : goal.slice_bounds-write_radial-end
slice_bounds-write_radial-end c = laying_room _ _ _ c.loop.invariant.1.1 (omega arith)

pub write_radial-at-requires : goal.write_radial-at-requires
write_radial-at-requires c = let t = here _ _ _ c.loop.invariant.1.1 (omega arith) in record { at_in_bounds = (t.inside, t.full); n_bins_bound = (c.requires.n_bins_bound.0, laying_part _ _ _ c.loop.invariant.1.1 (omega arith)) }

pub loop-preserved : goal.loop-preserved
loop-preserved c = (c.loop.invariant.0, (c.loop.invariant.1.0, laying_next _ _ _ c.loop.invariant.1.1 (omega arith) c.write_radial-at.ensures.value c.write_radial-at.ensures.part_after))

pub returns : goal.returns
returns c = rw c.loop.invariant.1.0.1 (laying_end _ _ _ c.loop.invariant.1.1 (omega arith))
