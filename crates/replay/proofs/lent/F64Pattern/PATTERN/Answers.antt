use Rattle.replay.proofs.Laws.{pattern64}
use Rattle.replay.proofs.lent.F64Pattern.PATTERN.Goals as goal

pub returns : goal.returns
returns c = pattern64
