use Rattle.std.proofs.Common.{rules, ap, pos, [], ◌∷◌}
use Rattle.wire.specs.Refusal.{kind, whole}
use Rattle.wire.specs.Reading.{give}
use Rattle.xdr.specs.Xdr.{int, pointer, list_head, at_least0}
use Rattle.wire.proofs.Results.{returned}
use Rattle.xdr.proofs.Chains.{given, go_on, go_no, by_on, by_no, let_on, let_no}
use mir.Syntax.{w32}
use mir.Facts.{to_z-of_z}
use Rattle.xdr.proofs.xdr.XdrCursor.list_head.Goals as goal

pub returns-in_err-count : goal.returns-in_err-count
unfolding list_head
returns-in_err-count c = rw (returned c.from_residual.ensures.1) (go_no int _ c.in_err-count.ensures)

pub returns-in_err-skip : goal.returns-in_err-skip
unfolding list_head pointer
returns-in_err-skip c = rw (returned c.from_residual-in_err-skip.ensures.1) (go_on int _ c.in_ok-count.ensures (by_no pointer _ c.in_err-skip.ensures))

pub returns-then-count-gt-MAX_XDR_LIST_LEN : goal.returns-then-count-gt-MAX_XDR_LIST_LEN
unfolding list_head pointer
returns-then-count-gt-MAX_XDR_LIST_LEN c = go_on int _ c.in_ok-count.ensures (by_on pointer _ c.in_ok-skip.ensures (let_no _ (give (at_least0 c.in_ok-count.count)) (rw (to_z-of_z {w = w32} {z = c.in_ok-count.count} (search rules)) at c.if-count-gt-MAX_XDR_LIST_LEN.true) (ap (λ z. kind 26 (whole z ∷ whole (pos 10000) ∷ [])) (to_z-of_z {w = w32} {z = c.in_ok-count.count} (search rules)))))

pub returns : goal.returns
unfolding list_head pointer
returns c = go_on int _ c.in_ok-count.ensures (by_on pointer _ c.in_ok-skip.ensures (let_on _ (give (at_least0 c.in_ok-count.count)) (rw (to_z-of_z {w = w32} {z = c.in_ok-count.count} (search rules)) at c.if-count-gt-MAX_XDR_LIST_LEN.false) (given (rw (to_z-of_z {w = w32} {z = c.in_ok-count.count} (search rules)) at c.at_least_0.ensures.0))))
