use Rattle.std.proofs.Common.{◌≡◌, length, sym, ap, ◌∙◌, rules}
use Rattle.capi.proofs.Answers.{by_report, copied, not_copied, over_all}
use Rattle.capi.proofs.scaling.l3_threshold.Goals as goal

pub returns-in-Ok-clause-leaves : goal.returns-in-Ok-clause-leaves
returns-in-Ok-clause-leaves c = let k = copied _ _ _ c.if-thresholds-ne32.false c.in-Ok.ensures in rw k.1 (by_report c.report.ensures c.write_report.ensures)

pub returns-in-Ok-clause-thresholds_after : goal.returns-in-Ok-clause-thresholds_after
returns-in-Ok-clause-thresholds_after c =
    let k = copied _ _ _ c.if-thresholds-ne32.false c.in-Ok.ensures in
    let l : length c.in-Ok.copy.bytes ≡ length c.args.thresholds.now = search rules in
    rw (k.1, sym c.is_short.ensures ∙ c.if-is_short.false) (c.copy_from_slice.ensures.after ∙ k.2 ∙ sym (over_all _ _ (ap length (sym k.2) ∙ l)))

pub returns-in-Err-clause-leaves : goal.returns-in-Err-clause-leaves
returns-in-Err-clause-leaves c = rw (not_copied _ _ _ c.if-thresholds-ne32.false c.in-Err.ensures) (by_report c.refusal_report.ensures c.write_report-in-Err.ensures)

pub returns-in-Err-clause-thresholds_after : goal.returns-in-Err-clause-thresholds_after
returns-in-Err-clause-thresholds_after c = rw (not_copied _ _ _ c.if-thresholds-ne32.false c.in-Err.ensures, sym c.is_short.ensures ∙ c.if-is_short.false)
