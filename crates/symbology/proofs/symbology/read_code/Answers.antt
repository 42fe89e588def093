use mathlib.Core.Path.{ap}
use mathlib.Core.Bool.{not}
use Rattle.std.proofs.Common.{◌∙◌, to_z-of_z, w16, rules}
use Rattle.symbology.proofs.Bodies.{block_cut, block_other, block_code}
use Rattle.symbology.proofs.symbology.read_code.Goals as goal

pub returns-then-len-lt18 : goal.returns-then-len-lt18
returns-then-len-lt18 c = block_cut _ c.if-len-lt18.true

pub returns-then-not-is_block_header : goal.returns-then-not-is_block_header
returns-then-not-is_block_header c = block_other _ c.if-len-lt18.false c.u16_at-divider.ensures c.u16_at-block.ensures c.is_block_header.ensures (ap not c.if-not-is_block_header.true) (to_z-of_z {w = w16} {z = c.as_i16.result} (search rules) ∙ c.as_i16.ensures) (to_z-of_z {w = w16} {z = c.as_i16-then-not-is_block_header.result} (search rules) ∙ c.as_i16-then-not-is_block_header.ensures)

pub returns : goal.returns
returns c = block_code _ c.if-len-lt18.false c.u16_at-divider.ensures c.u16_at-block.ensures c.is_block_header.ensures (ap not c.if-not-is_block_header.false) c.u16_at.ensures
