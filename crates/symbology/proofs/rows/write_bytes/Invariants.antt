use Rattle.std.proofs.Common.{◌≡◌, take}
use Rattle.symbology.proofs.rows.write_bytes.Given as goal

abbrev pub invariant-loop-i : goal.invariant-loop-i
invariant-loop-i l = take l.i l.row ≡ take l.i l.src
