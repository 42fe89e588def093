use Rattle.wire.proofs.Patterns.{pattern_nan, pattern_number}
use mathlib.Core.Path.{◌∙◌, sym}
use Rattle.wire.proofs.float.f32_from_bits.Goals as goal

pub float_from_bits-result : goal.float_from_bits-result
float_from_bits-result c = pattern_number c.args.bits c.if-bits-gt-INFINITY.false

pub returns-then-bits-gt-INFINITY : goal.returns-then-bits-gt-INFINITY
returns-then-bits-gt-INFINITY c = c.nan32.ensures ∙ sym (pattern_nan c.args.bits c.if-bits-gt-INFINITY.true)
