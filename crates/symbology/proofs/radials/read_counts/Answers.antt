use Rattle.symbology.proofs.Beams.{counts_empty, counts_large, counts_first, counts_over, counts_whole}
use Rattle.symbology.proofs.radials.read_counts.Goals as goal

pub returns-then-is_empty : goal.returns-then-is_empty
returns-then-is_empty c = counts_empty c.args.packet c.args.first _ c.count_at-n_radials.ensures.0 c.count_at-n_bins.ensures.0 c.if-is_empty.true

pub returns-then-cells-gt-MAX_GATE_COUNT : goal.returns-then-cells-gt-MAX_GATE_COUNT
returns-then-cells-gt-MAX_GATE_COUNT c = counts_large c.args.packet c.args.first _ c.count_at-n_radials.ensures.0 c.count_at-n_bins.ensures.0 c.if-is_empty.false c.product-cells.ensures c.if-cells-gt-MAX_GATE_COUNT.true

pub returns-then-first-ne0 : goal.returns-then-first-ne0
returns-then-first-ne0 c = counts_first _ _ _ c.count_at-n_radials.ensures.0 c.count_at-n_bins.ensures.0 c.if-is_empty.false c.product-cells.ensures c.if-cells-gt-MAX_GATE_COUNT.false c.if-first-ne0.true

pub returns-then-is_over_body : goal.returns-then-is_over_body
returns-then-is_over_body c = counts_over _ _ _ c.count_at-n_radials.ensures.0 c.count_at-n_bins.ensures.0 c.if-is_empty.false c.product-cells.ensures c.if-cells-gt-MAX_GATE_COUNT.false c.if-first-ne0.false c.remaining-available.ensures c.is_over_body.ensures c.if-is_over_body.true c.product.ensures

pub returns : goal.returns
returns c = counts_whole _ _ _ c.count_at-n_radials.ensures.0 c.count_at-n_bins.ensures.0 c.if-is_empty.false c.product-cells.ensures c.if-cells-gt-MAX_GATE_COUNT.false c.if-first-ne0.false c.remaining-available.ensures c.is_over_body.ensures c.if-is_over_body.false c.u16_at-range_scale.ensures
