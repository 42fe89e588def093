use Rattle.wire.specs.Reading.{run}
use Rattle.symbology.specs.Walk.{in_mode, radials_by, Accepted}
use Rattle.symbology.proofs.Showing.{MarkingIn}
use Rattle.symbology.proofs.Writing.{Written}
use Rattle.symbology.proofs.walks.write_radials.Given as goal

abbrev pub invariant-loop-radial : goal.invariant-loop-radial
invariant-loop-radial l = let f = l.grid.figures in (acc : Accepted (run (in_mode l.gaps (radials_by f)) l.s l.start))
    × (Written l.gaps f.packet f.n_radials f.n_bins l.s acc.0 l.initial.azimuths l.initial.codes l.azimuths l.codes l.at l.cell l.radial × MarkingIn f.packet f.n_radials f.n_bins l.s l.gaps acc.0 l.initial.marks l.marks l.at l.radial)
