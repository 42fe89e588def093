use Rattle.archive.proofs.Tests.{rows_28}
use Rattle.archive.proofs.surplus.test_rows.Goals as goal

pub returns-in-Packet28 : goal.returns-in-Packet28
returns-in-Packet28 c = rows_28 _ _ _ _ c.in-Packet28.is
