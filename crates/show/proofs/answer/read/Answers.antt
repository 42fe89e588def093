use Rattle.show.proofs.BlankValues.{written}
use Rattle.show.proofs.InPart.{full, refuses, fill_accepts, read}
use Rattle.show.specs.BlankValues.{blank_values}
use Rattle.sweep.proofs.Reading as reading
use Rattle.scale.specs.Physical.{declared_scale, fill_of}
use Rattle.wire.specs.Result.{lent}
use lib.Ieee.{Float}
use lib.ListN.{length-map}
use Rattle.std.proofs.Common.{◌≡◌, ◌∙◌, List, length, sym, refl, ap, arith, length-take-le, rules, take, min, ◌*◌}
use Rattle.show.proofs.answer.read.Goals as goal
use Rattle.show.proofs.answer.read.Goals.{In-Ok-decode}

pub returns-in-Err : goal.returns-in-Err
returns-in-Err c =
    record {
      values = blank_values 720000;
      read =
          rw c.refused.ensures.said
          (refuses _ _ _ _ c.args.azimuths.now c.args.codes.now (blank_values 720000) (reading.head_refused _ _ _ _ c.args.azimuths.now c.args.codes.now (full c.args.codes.now) c.in-Err.ensures));
      held = c.refused.ensures.values;
    }

pub returns-in-Err-decode : goal.returns-in-Err-decode
returns-in-Err-decode c =
    record {
      values = blank_values 720000;
      read =
          rw c.refused-in-Err-decode.ensures.said
          (refuses _ _ _ _ c.args.azimuths.now c.args.codes.now (blank_values 720000)
          (reading.body_refused _ _ _ _ c.args.azimuths.now c.args.codes.now (full c.args.codes.now) c.in-Ok.head _ c.terms_for-terms.result c.in-Ok.ensures refl
          (rw length-map c.terms_for-terms.ensures) c.in-Err-decode.ensures));
      held = c.refused-in-Err-decode.ensures.values;
    }

-- where the body is accepted
here : (c : In-Ok-decode)
    → reading.Decoded c.args.scheme c.args.file.now c.args.clock c.args.body.items c.args.azimuths.now c.args.codes.now (full c.args.codes.now) c.in-Ok.head (declared_scale c.in-Ok.head.scaling) c.terms_for-terms.result c.in-Ok-decode.figures
here c = reading.decoded c.in-Ok.ensures (rw length-map c.terms_for-terms.ensures) c.in-Ok-decode.ensures.answered

pub overflow_mul-cells : goal.overflow_mul-cells
overflow_mul-cells c = record { fits = omega (arith, (reading.drawn_here (here (goal.at.overflow_mul-cells c).In-Ok-decode)).admitted.codes_room) }

pub slice_bounds-fill_physical-end : goal.slice_bounds-fill_physical-end
slice_bounds-fill_physical-end c = search (rules, (reading.drawn_here (here (goal.at.slice_bounds-fill_physical-end c).In-Ok-decode)).admitted.codes_room)

pub slice_bounds-fill_physical-end-2 : goal.slice_bounds-fill_physical-end-2
slice_bounds-fill_physical-end-2 c = sym (length-take-le _ _ (slice_bounds-fill_physical-end c))

pub returns-in-Err-fill_physical : goal.returns-in-Err-fill_physical
returns-in-Err-fill_physical c =
    fill_accepts c.deref_mut.result.now (here (goal.at.returns-in-Err-fill_physical c).In-Ok-decode) c.in-Ok-decode.ensures.codes
    (c.min-n.ensures ∙ ap (λ n. min (c.in-Ok-decode.figures.n_radials * c.in-Ok-decode.figures.n_bins) n) (c.len.ensures ∙ sym c.deref_mut.ensures.len)) c.in-Err-fill_physical.ensures.result_value

-- the values where there is no memory for them
pub returns-in-Err-blank : goal.returns-in-Err-blank
returns-in-Err-blank c =
    let n = min (c.in-Ok-decode.figures.n_radials * c.in-Ok-decode.figures.n_bins) (length (blank_values 720000)) in
    record {
      values = lent (fill_of c.args.scheme c.args.file.now c.in-Ok.head.block (take n c.decode.new.codes) (length (blank_values 720000))) (λ values. values) (blank_values 720000);
      read =
          read (blank_values 720000) (here (goal.at.returns-in-Err-blank c).In-Ok-decode) c.in-Ok-decode.ensures.codes {n = n} refl c.accepted.ensures
          c.in-Ok-decode.ensures.azimuths refl;
      held = tt;
    }

pub returns : goal.returns
returns c =
    let old : c.deref_mut.result.now ≡ blank_values 720000 = c.deref_mut.ensures.value ∙ c.in-Ok-blank.ensures in
    record {
      values = c.fill_physical.new.physical;
      read =
          read (blank_values 720000) (here (goal.at.returns c).In-Ok-decode) c.in-Ok-decode.ensures.codes
          (c.min-n.ensures ∙ ap (λ n. min (c.in-Ok-decode.figures.n_radials * c.in-Ok-decode.figures.n_bins) n) (c.len.ensures ∙ sym c.deref_mut.ensures.len ∙ ap length old)) c.accepted-2.ensures
          c.in-Ok-decode.ensures.azimuths
          (c.in_default.ensures.physical_after
          ∙ ap (λ (l : List Float). lent (fill_of c.args.scheme c.args.file.now c.in-Ok.head.block (take c.min-n.result c.decode.new.codes) (length l)) (λ values. values) l) old);
      held = written c.fill_physical.new.physical c.in-Ok-blank.values.items c.in-Ok-blank.values.len (c.fill_physical.auto.physical ∙ ap length c.deref_mut.ensures.value ∙ sym c.in-Ok-blank.values.ok.0);
    }
