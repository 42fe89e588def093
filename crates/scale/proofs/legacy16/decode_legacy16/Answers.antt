use mathlib.Core.Path.{◌∙◌, sym, ap}
use mathlib.Core.List.{List}
use native.Mathlib.Omega.{arith}
use lib.ListN.{get_or}
use lib.Ieee.{Float, nan}
use borrow.Author.Rules.{rules}
use Rattle.wire.specs.Float.{◌⊗◌}
use Rattle.scale.specs.Legacy.{level_at, levels_of, unscaled_at, unscaled_levels}
use Rattle.scale.proofs.Levels.{sixteen_at, scaled_at}
use Rattle.scale.proofs.Mapped.{mapped_first, mapped_turn, mapped_end}
use Rattle.scale.proofs.legacy16.decode_legacy16.Goals as goal

pub loop-k-init : goal.loop-k-init
loop-k-init c = mapped_first _ _ _ (search rules)

pub loop-k-preserved : goal.loop-k-preserved
unfolding unscaled_levels
loop-k-preserved c =
    let at = c.loop-k in
    let t = c.args.threshold_data.now in
    let post = c.args.post_scale in
    mapped_turn at.invariant 0 _ (omega arith)
    (ap (λ (l : List Float). get_or l at.k nan ⊗ post) c.unscaled_levels-unscaled.ensures
    ∙ ap (λ (x : Float). x ⊗ post) (sixteen_at (unscaled_at t 0) nan at.k (omega arith))
    ∙ scaled_at t 0 post at.k
    ∙ ap (level_at t 0 post) (sym (sixteen_at (λ n. n) 0 at.k (omega arith))))

pub returns : goal.returns
unfolding levels_of
returns c = mapped_end c.loop-k.invariant (search rules)
