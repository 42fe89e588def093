use Rattle.wire.proofs.Results.{returned}
use Rattle.fields.proofs.PictureTotals.{few_codes, no_plan, few_totals, written}
use Rattle.fields.proofs.picture.picture_totals.Goals as goal

pub returns-then-is_short-clause-result_value : goal.returns-then-is_short-clause-result_value
returns-then-is_short-clause-result_value c = (few_codes _ _ _ _ _ c.args.totals.now c.is_short.ensures c.if-is_short.true).0

pub returns-then-is_short-clause-totals_after : goal.returns-then-is_short-clause-totals_after
returns-then-is_short-clause-totals_after c = (few_codes _ _ _ _ _ _ c.is_short.ensures c.if-is_short.true).1

pub returns-in_err-fields-clause-result_value : goal.returns-in_err-fields-clause-result_value
returns-in_err-fields-clause-result_value c =
    rw (returned c.from_residual.ensures.1) (no_plan _ _ _ _ _ c.args.totals.now c.is_short.ensures c.if-is_short.false c.in_err-fields.ensures).0

pub returns-in_err-fields-clause-totals_after : goal.returns-in_err-fields-clause-totals_after
returns-in_err-fields-clause-totals_after c = (no_plan _ _ _ _ _ _ c.is_short.ensures c.if-is_short.false c.in_err-fields.ensures).1

pub returns-then-totals-fields-clause-result_value : goal.returns-then-totals-fields-clause-result_value
returns-then-totals-fields-clause-result_value c =
    (few_totals _ _ _ _ _ c.args.totals.now c.is_short.ensures c.if-is_short.false c.in_ok-fields.ensures c.if-totals-fields.true).0

pub returns-then-totals-fields-clause-totals_after : goal.returns-then-totals-fields-clause-totals_after
returns-then-totals-fields-clause-totals_after c =
    (few_totals _ _ _ _ _ _ c.is_short.ensures c.if-is_short.false c.in_ok-fields.ensures c.if-totals-fields.true).1

pub returns-clause-result_value : goal.returns-clause-result_value
returns-clause-result_value c =
    (written _ _ _ c.args.scale _ c.args.totals.now c.is_short.ensures c.if-is_short.false c.in_ok-fields.ensures c.if-totals-fields.false (rw c.from.ensures at c.write_totals.ensures)).0

pub returns-clause-totals_after : goal.returns-clause-totals_after
returns-clause-totals_after c =
    (written _ _ _ c.args.scale _ _ c.is_short.ensures c.if-is_short.false c.in_ok-fields.ensures c.if-totals-fields.false (rw c.from.ensures at c.write_totals.ensures)).1
