use Rattle.wire.proofs.Results.{returned}
use Rattle.sweep.proofs.GapReading.{body_refused, rooms, read}
use Rattle.sweep.proofs.MergeReading.{merge_head_refused, merge_begun}
use Rattle.sweep.proofs.merge.merge_receptions.Goals as goal

pub returns-in_err-head : goal.returns-in_err-head
returns-in_err-head c = rw (returned c.from_residual.ensures.1) (merge_head_refused _ _ _ _ _ _ _ _ _ c.in_err-head.ensures)

pub returns-in_err-figures : goal.returns-in_err-figures
returns-in_err-figures c =
    rw (returned c.from_residual-in_err-figures.ensures.1)
    (body_refused (merge_begun _ _ _ _ _ c.args.azimuths.now c.args.codes.now c.args.physical.now c.args.marks.now _ c.in_ok-head.ensures c.terms_for-terms.ensures) c.in_err-figures.ensures)

pub fill_values-requires : goal.fill_values-requires
fill_values-requires c =
    rooms (record { begun = merge_begun _ _ _ _ _ c.args.azimuths.now c.args.codes.now c.args.physical.now c.args.marks.now _ c.in_ok-head.ensures c.terms_for-terms.ensures; figures_are = c.in_ok-figures.ensures.answered })
    c.in_ok-figures.ensures.codes c.in_ok-figures.ensures.marks

pub returns : goal.returns
returns c =
    read (record { begun = merge_begun _ _ _ _ _ c.args.azimuths.now c.args.codes.now c.args.physical.now c.args.marks.now _ c.in_ok-head.ensures c.terms_for-terms.ensures; figures_are = c.in_ok-figures.ensures.answered })
    c.in_ok-figures.ensures.codes c.in_ok-figures.ensures.marks c.fill_values.ensures.result_value c.in_ok-figures.ensures.azimuths c.fill_values.ensures.physical_after
