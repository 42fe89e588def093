use Rattle.wire.proofs.Results.{returned}
use Rattle.symbology.proofs.Payload.{block_halted, count_halted, count_passed, plans_as}
use Rattle.symbology.proofs.components.read_payload.Goals as goal

pub returns-in_err-product_block : goal.returns-in_err-product_block
returns-in_err-product_block c = rw (returned c.from_residual.ensures.1) (block_halted _ _ _ (rw c.new-c.ensures at c.in_err-product_block.ensures.answered))

pub returns-in_err-n : goal.returns-in_err-n
returns-in_err-n c = rw (returned c.from_residual-in_err-n.ensures.1) (count_halted _ _ _ (rw c.new-c.ensures at c.in_ok-product_block.ensures.answered) (rw (c.in_ok-product_block.ensures.kept, c.new-c.ensures) at c.in_err-n.ensures.answered))

pub returns : goal.returns
returns c = plans_as _ _ _ (count_passed _ _ _ (rw c.new-c.ensures at c.in_ok-product_block.ensures.answered) (rw (c.in_ok-product_block.ensures.kept, c.new-c.ensures) at c.in_ok-n.ensures.answered)) (rw c.position.ensures at c.components.ensures)
