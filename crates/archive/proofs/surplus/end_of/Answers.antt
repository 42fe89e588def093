use Rattle.std.proofs.Common.{◌∙◌, ap, ◌+◌}
use Rattle.archive.proofs.Tests.{end_old, end_28}
use Rattle.archive.proofs.surplus.end_of.Goals as goal

pub returns-in-Packet16 : goal.returns-in-Packet16
returns-in-Packet16 c = c.place_after.ensures ∙ end_old _ _ c.in-Packet16.is

pub returns-in-Packet28 : goal.returns-in-Packet28
returns-in-Packet28 c = ap (λ n. 24 + n) c.u32_at.ensures ∙ end_28 _ _ c.in-Packet28.is
