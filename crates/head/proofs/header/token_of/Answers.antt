use Rattle.head.proofs.Token.{tokens, piece_long, token_fits, token_found, token_last, token_room, token_next}
use Rattle.wire.proofs.Walks.{walk_first}
use Rattle.std.proofs.Common.{arith, sym, ◌∙◌}
use Rattle.head.proofs.header.token_of.Goals as goal

pub loop-k-init : goal.loop-k-init
loop-k-init c = walk_first tokens _

pub slice_bounds-token_in-end : goal.slice_bounds-token_in-end
slice_bounds-token_in-end c = piece_long c.loop-k.invariant _ c.piece_length-n.ensures

pub overflow_add-result : goal.overflow_add-result
overflow_add-result c = omega (arith, token_fits c.loop-k.invariant _ c.piece_length-n.ensures _ c.in-Some.ensures)

pub returns-in-Some : goal.returns-in-Some
returns-in-Some c = token_found c.loop-k.invariant _ c.piece_length-n.ensures _ c.in-Some.ensures

pub returns-then-n-rest : goal.returns-then-n-rest
returns-then-n-rest c = token_last c.loop-k.invariant _ c.piece_length-n.ensures c.if-n-rest.true (sym c.in_default.is ∙ c.token_in.ensures)

pub overflow_add-at : goal.overflow_add-at
overflow_add-at c = omega (arith, token_room c.loop-k.invariant _ c.piece_length-n.ensures c.if-n-rest.false)

pub overflow_add-at-in-loop-k : goal.overflow_add-at-in-loop-k
overflow_add-at-in-loop-k c = omega (arith, token_room c.loop-k.invariant _ c.piece_length-n.ensures c.if-n-rest.false)

pub loop-k-smaller : goal.loop-k-smaller
loop-k-smaller c = omega (arith, token_room c.loop-k.invariant _ c.piece_length-n.ensures c.if-n-rest.false)

pub loop-k-preserved : goal.loop-k-preserved
loop-k-preserved c = token_next c.loop-k.invariant _ c.piece_length-n.ensures c.if-n-rest.false (sym c.in_default.is ∙ c.token_in.ensures)
