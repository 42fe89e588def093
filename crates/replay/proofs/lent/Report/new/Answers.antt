use Rattle.std.proofs.Common.{replicate, ap}
use lib.Ieee.{of_bits, neg}
use Rattle.replay.proofs.Laws.{pattern64}
use Rattle.replay.proofs.lent.Report.new.Goals as goal

pub returns-clause-floats : goal.returns-clause-floats
unfolding of_bits neg
returns-clause-floats c = ap (replicate 16) pattern64
