use lib.Ieee.{div, of_bits}
use mathlib.Core.Path.{refl}
use Rattle.wire.proofs.float.nan32.Goals as goal

pub returns : goal.returns
unfolding div of_bits
returns c = refl
