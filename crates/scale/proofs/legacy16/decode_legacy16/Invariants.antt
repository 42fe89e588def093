use Rattle.scale.specs.Legacy.{level_at, sixteen}
use Rattle.scale.proofs.Mapped.{Mapped}
use Rattle.scale.proofs.legacy16.decode_legacy16.Given as goal

abbrev pub invariant-loop-k : goal.invariant-loop-k
invariant-loop-k l = Mapped (level_at l.threshold_data 0 l.post_scale) sixteen l.initial.levels l.levels l.k
