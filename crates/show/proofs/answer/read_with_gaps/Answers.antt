use Rattle.show.proofs.BlankValues.{blank_long, written}
use Rattle.show.specs.BlankValues.{blank_values}
use Rattle.sweep.proofs.GapReading.{Decoded, head_refused, begun, body_refused, last_accepts, read_last}
use Rattle.scale.specs.Physical.{declared_scale}
use Rattle.symbology.specs.Answers.{gap_decode_for}
use Rattle.sweep.specs.GapSweep.{blanked_lent, gap_sweep_of, gap_values_of}
use Rattle.sweep.specs.Sweep.{terms_for}
use lib.Ieee.{Float}
use Rattle.std.proofs.Common.{◌≡◌, ◌∙◌, List, length, sym, refl, ap, take}
use Rattle.show.proofs.answer.read_with_gaps.Goals as goal
use Rattle.show.proofs.answer.read_with_gaps.Goals.{In-Ok-decode_with_gaps}

pub returns-in-Err : goal.returns-in-Err
returns-in-Err c =
    record {
      values = blank_values 720000;
      read = rw c.refused.ensures.said (head_refused _ _ _ _ c.args.azimuths.now c.args.codes.now (blank_values 720000) c.args.marks.now c.in-Err.ensures);
      held = c.refused.ensures.values;
    }

pub returns-in-Err-decode_with_gaps : goal.returns-in-Err-decode_with_gaps
returns-in-Err-decode_with_gaps c =
    record {
      values = blank_values 720000;
      read =
          rw c.refused-in-Err-decode_with_gaps.ensures.said
          (body_refused (begun _ _ _ _ c.args.azimuths.now c.args.codes.now (blank_values 720000) c.args.marks.now _ c.in-Ok.ensures (c.terms_for-terms.ensures ∙ ap (terms_for c.in-Ok.head.scaling) (sym (blank_long 720000)))) c.in-Err-decode_with_gaps.ensures);
      held = c.refused-in-Err-decode_with_gaps.ensures.values;
    }

-- where the body is accepted
here : (c : In-Ok-decode_with_gaps)
    → Decoded c.args.scheme c.args.file.now c.args.clock (gap_sweep_of c.args.scheme c.args.file.now c.args.clock c.args.body.items (length c.args.azimuths.now) (length c.args.codes.now) (length (blank_values 720000)) (length c.args.marks.now))
    (gap_decode_for c.terms_for-terms.result c.args.body.items) c.args.azimuths.now c.args.codes.now (blank_values 720000) c.args.marks.now c.in-Ok.head (declared_scale c.in-Ok.head.scaling) c.in-Ok-decode_with_gaps.figures
here c =
    record {
      begun = begun _ _ _ _ c.args.azimuths.now c.args.codes.now (blank_values 720000) c.args.marks.now _ c.in-Ok.ensures (c.terms_for-terms.ensures ∙ ap (terms_for c.in-Ok.head.scaling) (sym (blank_long 720000)));
      figures_are = c.in-Ok-decode_with_gaps.ensures.answered;
    }

-- the values where there is no memory for them
pub returns-in-Err-blank : goal.returns-in-Err-blank
returns-in-Err-blank c =
    record {
      values =
          blanked_lent (gap_values_of c.args.scheme c.args.file.now c.in-Ok.head.block c.in-Ok-decode_with_gaps.figures c.decode_with_gaps.new.codes (length (blank_values 720000)) (length c.decode_with_gaps.new.marks))
          c.in-Ok-decode_with_gaps.figures.n_bins (take c.in-Ok-decode_with_gaps.figures.n_radials c.decode_with_gaps.new.marks) (blank_values 720000);
      read =
          read_last (here (goal.at.returns-in-Err-blank c).In-Ok-decode_with_gaps) c.in-Ok-decode_with_gaps.ensures.codes c.in-Ok-decode_with_gaps.ensures.marks c.accepted.ensures
          c.in-Ok-decode_with_gaps.ensures.azimuths refl;
      held = tt;
    }

pub returns-in-Err-fill_with_gaps : goal.returns-in-Err-fill_with_gaps
returns-in-Err-fill_with_gaps c =
    let old : c.deref_mut.result.now ≡ blank_values 720000 = c.deref_mut.ensures.value ∙ c.in-Ok-blank.ensures in
    last_accepts (here (goal.at.returns-in-Err-fill_with_gaps c).In-Ok-decode_with_gaps) c.in-Ok-decode_with_gaps.ensures.codes c.in-Ok-decode_with_gaps.ensures.marks
    (rw old at c.in-Err-fill_with_gaps.ensures.result_value)

pub returns : goal.returns
returns c =
    let old : c.deref_mut.result.now ≡ blank_values 720000 = c.deref_mut.ensures.value ∙ c.in-Ok-blank.ensures in
    record {
      values = c.fill_with_gaps.new.physical;
      read =
          read_last (here (goal.at.returns c).In-Ok-decode_with_gaps) c.in-Ok-decode_with_gaps.ensures.codes c.in-Ok-decode_with_gaps.ensures.marks c.accepted-2.ensures
          c.in-Ok-decode_with_gaps.ensures.azimuths
          (c.in_default.ensures.physical_after
          ∙ ap (λ (l : List Float). blanked_lent (gap_values_of c.args.scheme c.args.file.now c.in-Ok.head.block c.in-Ok-decode_with_gaps.figures c.decode_with_gaps.new.codes (length l) (length c.decode_with_gaps.new.marks))
          c.in-Ok-decode_with_gaps.figures.n_bins (take c.in-Ok-decode_with_gaps.figures.n_radials c.decode_with_gaps.new.marks) l) old);
      held = written c.fill_with_gaps.new.physical c.in-Ok-blank.values.items c.in-Ok-blank.values.len (c.fill_with_gaps.auto.physical ∙ ap length c.deref_mut.ensures.value ∙ sym c.in-Ok-blank.values.ok.0);
    }
