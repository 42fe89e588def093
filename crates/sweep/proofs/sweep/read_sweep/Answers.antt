use mathlib.Core.Path.{refl, sym}
use native.Mathlib.Omega.{arith}
use lib.Seq.{length-take-le}
use borrow.Author.Rules.{rules}
use Rattle.wire.proofs.Results.{returned}
use Rattle.sweep.proofs.Reading.{head_refused, body_refused, decoded, drawn_here, fill_accepts, read}
use Rattle.sweep.proofs.sweep.read_sweep.Goals as goal

pub returns-in_err-head : goal.returns-in_err-head
returns-in_err-head c = rw (returned c.from_residual.ensures.1) (head_refused _ _ _ _ _ _ _ c.in_err-head.ensures)

pub returns-in_err-figures : goal.returns-in_err-figures
returns-in_err-figures c =
    rw (returned c.from_residual-in_err-figures.ensures.1)
    (body_refused _ _ _ _ _ _ _ c.in_ok-head.head _ c.terms_for-terms.result c.in_ok-head.ensures refl c.terms_for-terms.ensures c.in_err-figures.ensures)

pub overflow_mul-cells : goal.overflow_mul-cells
overflow_mul-cells c = record { fits = omega (arith, (drawn_here (decoded c.in_ok-head.ensures c.terms_for-terms.ensures c.in_ok-figures.ensures.answered)).admitted.codes_room) }

pub slice_bounds-fill_physical-end : goal.slice_bounds-fill_physical-end
slice_bounds-fill_physical-end c = search (rules, (drawn_here (decoded c.in_ok-head.ensures c.terms_for-terms.ensures c.in_ok-figures.ensures.answered)).admitted.codes_room)

pub slice_bounds-fill_physical-end-2 : goal.slice_bounds-fill_physical-end-2
slice_bounds-fill_physical-end-2 c = sym (length-take-le _ _ (slice_bounds-fill_physical-end c))

pub returns-in_err-fill_physical : goal.returns-in_err-fill_physical
returns-in_err-fill_physical c =
    fill_accepts (decoded c.in_ok-head.ensures c.terms_for-terms.ensures c.in_ok-figures.ensures.answered) c.in_ok-figures.ensures.codes c.in_err-fill_physical.ensures.result_value

pub returns : goal.returns
returns c =
    read (decoded c.in_ok-head.ensures c.terms_for-terms.ensures c.in_ok-figures.ensures.answered) c.in_ok-figures.ensures.codes c.accepted.ensures
    c.in_ok-figures.ensures.azimuths c.in_ok-fill_physical.ensures.physical_after
