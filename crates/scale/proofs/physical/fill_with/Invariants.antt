use Rattle.std.proofs.Common.{ℕ}
use lib.Ieee.{Float}
use Rattle.scale.specs.Physical.{Gives}
use Rattle.scale.proofs.Mapped.{Mapped}
use Rattle.scale.proofs.physical.fill_with.Given as goal

abbrev pub invariant-loop-i : goal.invariant-loop-i
invariant-loop-i g l = (f : ℕ → Float) → Gives (goal.F-post g l.value) f l.codes → Mapped f l.codes l.fn.physical l.physical l.i
