use lib.Ieee.{div, of_bits}
use Rattle.wire.specs.Float.{f64}
use Rattle.std.proofs.Common.{rules, sym, ◌∙◌}
use Rattle.symbology.proofs.Remainder.{nan_stays, infinite, small, middle, large}
use Rattle.symbology.proofs.centre.turned.Goals as goal

pub returns-then-is_nan : goal.returns-then-is_nan
returns-then-is_nan c = nan_stays _ _ (sym c.is_nan.ensures.value ∙ c.if-is_nan.true)

pub returns-then-field-eq2047 : goal.returns-then-field-eq2047
unfolding div of_bits
returns-then-field-eq2047 c = infinite c.args.x (search rules) _ c.if-field-eq2047.true

pub returns-then-field-lt1023 : goal.returns-then-field-lt1023
unfolding of_bits f64
returns-then-field-lt1023 c = small c.args.x (search rules) c.if-field-lt1023.true

pub returns-then-field-lt1075 : goal.returns-then-field-lt1075
returns-then-field-lt1075 c = middle c.args.x (search rules) c.if-field-lt1023.false c.if-field-lt1075.true c.fractional.ensures c.signed.ensures

pub returns : goal.returns
returns c = large c.args.x (search rules) c.if-field-lt1075.false c.if-field-eq2047.false c.whole.ensures c.signed-2.ensures
