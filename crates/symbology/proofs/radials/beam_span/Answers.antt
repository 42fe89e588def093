use Rattle.symbology.proofs.Beams.{beam_cut, beam_wide, beam_wrong, beam_whole}
use Rattle.symbology.proofs.radials.beam_span.Goals as goal

pub returns-then-have-lt6 : goal.returns-then-have-lt6
returns-then-have-lt6 c = beam_cut _ _ _ _ _ _ c.remaining-have.ensures c.if-have-lt6.true

pub returns-then-is_width_wrong : goal.returns-then-is_width_wrong
returns-then-is_width_wrong c = beam_wide _ _ _ _ _ _ c.remaining-have.ensures c.if-have-lt6.false c.u16_at-count.ensures c.u16_at-width.ensures c.is_width_wrong.ensures c.if-is_width_wrong.true c.width_deg.ensures

pub returns-then-is_count_wrong : goal.returns-then-is_count_wrong
returns-then-is_count_wrong c =
    rw c.from.ensures (beam_wrong _ _ _ _ _ _ c.remaining-have.ensures c.if-have-lt6.false c.u16_at-count.ensures c.u16_at-width.ensures c.is_width_wrong.ensures c.if-is_width_wrong.false
    c.is_count_wrong.ensures c.if-is_count_wrong.true)

pub returns : goal.returns
returns c =
    beam_whole _ _ _ _ _ _ c.remaining-have.ensures c.if-have-lt6.false c.u16_at-count.ensures c.u16_at-width.ensures c.is_width_wrong.ensures c.if-is_width_wrong.false
    c.is_count_wrong.ensures c.if-is_count_wrong.false c.u16_at-start.ensures c.azimuth_centre_deg.ensures c.covered_by.ensures.0
