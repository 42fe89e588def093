use Rattle.symbology.proofs.Remainder.{whole_float}
use Rattle.symbology.proofs.centre.whole.Goals as goal

pub returns : goal.returns
returns c = whole_float _ _ _ c.doubled.ensures.value
