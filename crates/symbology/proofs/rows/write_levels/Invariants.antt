use Rattle.std.proofs.Common.{◌≡◌, take}
use Rattle.symbology.specs.Rows.{words}
use Rattle.symbology.proofs.rows.write_levels.Given as goal

abbrev pub invariant-loop-i : goal.invariant-loop-i
invariant-loop-i l = take l.i l.row ≡ take l.i (words l.body)
