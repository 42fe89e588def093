use Rattle.std.proofs.Common.{◌≡◌, take, replicate}
use Rattle.symbology.proofs.cells.paint.Given as goal

abbrev pub invariant-loop-place : goal.invariant-loop-place
invariant-loop-place g l = take l.place-index l.part ≡ replicate l.place-index l.v
