use Rattle.scale.proofs.Levels.{sixteen_at}
use Rattle.scale.proofs.Mapped.{mapped_first, mapped_turn, mapped_end}
use Rattle.scale.specs.Legacy.{unscaled_at, unscaled_levels}
use mathlib.Core.Path.{◌∙◌, sym, ap}
use native.Mathlib.Omega.{arith}
use borrow.Author.Rules.{rules}
use Rattle.scale.proofs.legacy16.unscaled_levels.Goals as goal

pub loop-k-init : goal.loop-k-init
loop-k-init c = mapped_first _ _ _ (search rules)

pub loop-k-preserved : goal.loop-k-preserved
unfolding unscaled_at
loop-k-preserved c =
    let at = c.loop-k in
    mapped_turn at.invariant 0 _ (omega arith)
    (c.unscaled_level.ensures
    ∙ ap (unscaled_at c.args.t.now c.args.at) (sym (sixteen_at (λ n. n) 0 at.k (omega arith))))

pub returns : goal.returns
unfolding unscaled_levels
returns c = mapped_end c.loop-k.invariant (search rules)
