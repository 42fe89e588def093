use Rattle.symbology.proofs.RowSame.{same_ints}
use Rattle.symbology.specs.Rows.{codes_of}
use Rattle.std.proofs.Common.{◌∙◌, rules}
use Rattle.symbology.proofs.alike.same_row.Goals as goal

pub returns-in-Packet28 : goal.returns-in-Packet28
unfolding codes_of
returns-in-Packet28 c =
    rw c.in-Packet28.is
    (c.eq-in-Packet28.ensures ∙ same_ints _ _ _ _ c.in-Packet28.is c.requires.0 c.requires.1 (λ i. search rules) (λ i. search rules))
