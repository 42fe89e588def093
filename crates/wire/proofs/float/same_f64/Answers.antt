use lib.Ieee.{binary64}
use Rattle.std.proofs.Common.{rules, sym, ◌∙◌}
use Rattle.wire.proofs.Equal.{nan_first, nan_second, by_bits}
use Rattle.wire.proofs.float.same_f64.Goals as goal

pub returns-then-is_nan : goal.returns-then-is_nan
returns-then-is_nan c = c.is_nan-then-is_nan.ensures.value ∙ nan_first _ _ (sym c.is_nan.ensures.value ∙ c.if-is_nan.true)

pub returns-then-is_nan-2 : goal.returns-then-is_nan-2
returns-then-is_nan-2 c = nan_second _ _ (sym c.is_nan.ensures.value ∙ c.if-is_nan.false) (sym c.is_nan-2.ensures.value ∙ c.if-is_nan-2.true)

pub returns : goal.returns
returns c = by_bits binary64 _ _ (search rules) (search rules)
