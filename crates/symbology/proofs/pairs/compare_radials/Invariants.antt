use Rattle.symbology.proofs.PairWalk.{Paired}
use Rattle.symbology.specs.Pairs.{judged, walk_by}
use Rattle.symbology.proofs.pairs.compare_radials.Given as goal

abbrev pub invariant-loop-r : goal.invariant-loop-r
invariant-loop-r l = let f = l.grid.figures in Paired f.packet f.n_radials f.n_bins l.s l.t (judged (walk_by f l.s l.start_s) (walk_by f l.t l.start_t)) l.r l.i l.j l.noted
