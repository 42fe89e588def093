use Rattle.show.proofs.Zeros.{zero32}
use Rattle.show.proofs.rooms.F32Zero.ZERO.Goals as goal

pub returns : goal.returns
returns c = zero32
