use Rattle.symbology.proofs.Walking.{Checked}
use Rattle.symbology.specs.Walk.{in_mode, radials_by, position}
use Rattle.wire.specs.Reading.{walk}
use Rattle.std.proofs.Common.{◌-◌}
use Rattle.symbology.proofs.walks.check_radials.Given as goal

abbrev pub invariant-loop-r : goal.invariant-loop-r
invariant-loop-r l = let f = l.grid.figures in Checked l.gaps f.packet f.n_radials f.n_bins l.s (position (walk (in_mode l.gaps (radials_by f)) l.s l.start)) l.r l.at

abbrev pub decreases-loop-r : goal.decreases-loop-r
decreases-loop-r l = l.grid.figures.n_radials - l.r
