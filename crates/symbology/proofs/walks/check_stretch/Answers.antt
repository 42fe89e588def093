use Rattle.symbology.proofs.Walking.{checked_from, checked_turn, checked_next, checked_all, ends_there}
use Rattle.std.proofs.Common.{sym, ◌∙◌, arith, rules}
use Rattle.symbology.proofs.walks.check_stretch.Goals as goal

pub loop-r-init : goal.loop-r-init
loop-r-init c = checked_from _ _ _ _ _ _ _ (search rules)

pub returns-then-not-ends_at : goal.returns-then-not-ends_at
returns-then-not-ends_at c = record { q_value = checked_turn _ _ _ _ _ c.loop-r.invariant c.loop-r-test.true c.check_radial-next.ensures; first_lt_checked = (search rules, search rules) }

pub loop-r-preserved : goal.loop-r-preserved
loop-r-preserved c = checked_next _ _ _ _ _ c.loop-r.invariant c.loop-r-test.true
    (sym (ends_there c.check_radial-next.result _ (sym c.ends_at.ensures ∙ c.if-not-ends_at.false)) ∙ c.check_radial-next.ensures)

pub returns : goal.returns
returns c = record { q_value = checked_all _ _ _ _ _ c.loop-r.invariant (omega arith); first_lt_checked = (search rules, search rules) }
