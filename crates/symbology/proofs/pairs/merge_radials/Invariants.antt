use Rattle.symbology.specs.Walk.{Accepted}
use Rattle.symbology.specs.Pairs.{walk_by}
use Rattle.symbology.proofs.Merging.{Merging}
use Rattle.symbology.proofs.pairs.merge_radials.Given as goal

abbrev pub invariant-loop-r : goal.invariant-loop-r
invariant-loop-r l = let f = l.grid.figures in (a : Accepted (walk_by f l.s l.start_s)) × (b : Accepted (walk_by f l.t l.start_t))
    × Merging f.packet f.n_radials f.n_bins l.s l.t a.0 b.0 l.initial.azimuths l.initial.codes l.initial.marks l.azimuths l.codes l.marks l.i l.j l.cell l.r
