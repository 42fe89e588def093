use Rattle.scale.proofs.Mapped.{Mapped}
use Rattle.scale.specs.Legacy.{unscaled_at, sixteen}
use Rattle.scale.proofs.legacy16.unscaled_levels.Given as goal

abbrev pub invariant-loop-k : goal.invariant-loop-k
invariant-loop-k l = Mapped (unscaled_at l.t l.at) sixteen l.initial.levels l.levels l.k
