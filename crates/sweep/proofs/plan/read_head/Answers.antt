use borrow.Author.Rules.{rules}
use Rattle.head.proofs.Bounds.{header_inside}
use mathlib.Core.Path.{sym}
use Rattle.sweep.proofs.plan.read_head.Goals as goal

pub overflow_add-block : goal.overflow_add-block
overflow_add-block c = search (rules, header_inside _ _ (sym c.in_ok-block.ensures))
