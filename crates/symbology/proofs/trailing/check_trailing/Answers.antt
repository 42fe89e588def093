use Rattle.std.proofs.Common.{[], ◌∷◌, sym, refl, ◌∙◌}
use Rattle.symbology.proofs.Ending.{part_long, ends_as, ends_other}
use Rattle.symbology.proofs.trailing.check_trailing.Goals as goal

pub returns-then-n-eq0 : goal.returns-then-n-eq0
returns-then-n-eq0 c = ends_as _ _ c.trimmed_len-n.ensures [] refl (rw c.if-n-eq0.true)

pub slice_bounds-same-end : goal.slice_bounds-same-end
slice_bounds-same-end c = part_long _ _ c.trimmed_len-n.ensures

pub returns-then-same : goal.returns-then-same
returns-then-same c = ends_as _ _ c.trimmed_len-n.ensures (3 ∷ []) refl (sym c.same.ensures ∙ c.if-same.true)

pub slice_bounds-same-end-3 : goal.slice_bounds-same-end-3
slice_bounds-same-end-3 c = part_long _ _ c.trimmed_len-n.ensures

pub returns-then-same-2 : goal.returns-then-same-2
returns-then-same-2 c = ends_as _ _ c.trimmed_len-n.ensures (13 ∷ 13 ∷ 10 ∷ 3 ∷ []) refl (sym c.same-2.ensures ∙ c.if-same-2.true)

pub returns : goal.returns
returns c = ends_other _ _ c.trimmed_len-n.ensures c.if-n-eq0.false (sym c.same.ensures ∙ c.if-same.false) (sym c.same-2.ensures ∙ c.if-same-2.false)
