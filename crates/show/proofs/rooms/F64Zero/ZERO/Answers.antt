use Rattle.show.proofs.Zeros.{zero64}
use Rattle.show.proofs.rooms.F64Zero.ZERO.Goals as goal

pub returns : goal.returns
returns c = zero64
