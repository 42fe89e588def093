use Rattle.replay.proofs.Laws.{pattern32}
use Rattle.replay.proofs.lent.F32Pattern.PATTERN.Goals as goal

pub returns : goal.returns
returns c = pattern32
