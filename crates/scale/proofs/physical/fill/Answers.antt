use Rattle.std.proofs.Common.{◌∙◌, ap}
use Rattle.scale.specs.Physical.{value_of, filled}
use Rattle.scale.proofs.Levels.{levels_value}
use Rattle.scale.proofs.physical.fill.Goals as goal

pub returns-in-Legacy : goal.returns-in-Legacy
unfolding value_of
returns-in-Legacy c =
    rw c.in-Legacy.is
    (c.fill_levels.ensures
    ∙ ap (λ f. filled f c.args.codes.now c.args.physical.now)
    (levels_value c.args.file.now _ _ c.unscaled_levels-levels.ensures))
