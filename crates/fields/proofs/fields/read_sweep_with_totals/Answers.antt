use native.Mathlib.Omega.{arith}
use lib.Seq.{length-take-le}
use mathlib.Core.Path.{sym}
use Rattle.fields.proofs.Joined.{passes, sweep_accepts, cells_fit, cells_there, totals_accept, done}
use Rattle.fields.proofs.fields.read_sweep_with_totals.Goals as goal

pub returns-in_err-read_sweep : goal.returns-in_err-read_sweep
returns-in_err-read_sweep c = sweep_accepts _ _ _ _ _ _ _ _ _ (passes _ _ _ _ _ _ _ _ _ c.in_ok-done.ensures) c.in_err-read_sweep.ensures.answered

pub overflow_mul-cells : goal.overflow_mul-cells
overflow_mul-cells c = record { fits = omega (arith, cells_fit _ _ _ _ _ _ _ _ _ (passes _ _ _ _ _ _ _ _ _ c.in_ok-done.ensures)) }

pub slice_bounds-picture_totals-end : goal.slice_bounds-picture_totals-end
slice_bounds-picture_totals-end c = cells_there _ _ _ _ _ _ _ _ _ (passes _ _ _ _ _ _ _ _ _ c.in_ok-done.ensures) c.in_ok-read_sweep.ensures.codes

pub slice_bounds-picture_totals-end-2 : goal.slice_bounds-picture_totals-end-2
slice_bounds-picture_totals-end-2 c = sym (length-take-le _ _ (slice_bounds-picture_totals-end c))

pub returns-in_err-fields : goal.returns-in_err-fields
returns-in_err-fields c =
    totals_accept _ _ _ _ _ _ _ _ _ (passes _ _ _ _ _ _ _ _ _ c.in_ok-done.ensures) c.in_ok-read_sweep.ensures.codes c.in_err-fields.ensures.result_value

pub returns : goal.returns
returns c =
    done _ _ _ _ _ _ _ _ _ (passes _ _ _ _ _ _ _ _ _ c.in_ok-done.ensures) c.in_ok-read_sweep.ensures.codes c.in_ok-read_sweep.ensures.azimuths
    c.in_ok-read_sweep.ensures.physical c.in_ok-fields.ensures.result_value c.picture_totals.ensures.totals_after
