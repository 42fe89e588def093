use Rattle.std.proofs.Common.{◌≡◌, rules, ap, ◌∙◌, bit_or}
use Rattle.std.specs.Prelude.{fold}
use Rattle.scale.specs.Physical.{has_level}
use Rattle.scale.proofs.Levels.{together}
use Rattle.scale.proofs.physical.have_levels.Goals as goal

pub returns : goal.returns
returns c =
    let f : c.fold.result ≡ fold bit_or 0 c.args.codes.now = search rules in
    ap has_level f ∙ together 0 c.args.codes.now
