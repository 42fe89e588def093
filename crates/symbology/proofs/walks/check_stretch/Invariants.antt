use Rattle.symbology.proofs.Walking.{Checked}
use Rattle.symbology.specs.Walk.{walk_on}
use Rattle.symbology.proofs.walks.check_stretch.Given as goal

abbrev pub invariant-loop-r : goal.invariant-loop-r
invariant-loop-r l = let f = l.grid.figures in Checked l.gaps f.packet f.n_radials f.n_bins l.s (walk_on l.gaps f l.s l.first l.start) l.r l.at
