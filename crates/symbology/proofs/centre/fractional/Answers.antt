use Rattle.std.proofs.Common.{arith, ◌*◌, ◌^◌}
use Rattle.std.proofs.Math.Nat.{mod-le}
use lib.Dec.{le→leb}
use lib.Ieee.{in_float}
use Rattle.std.proofs.lemmas.Nat.{pow_pos}
use Rattle.symbology.proofs.Remainder.{divided, unit_is, unit_small}
use Rattle.symbology.proofs.centre.fractional.Goals as goal

pub overflow_mul-rest : goal.overflow_mul-rest
overflow_mul-rest c = record { fits = omega (arith, unit_is c.args.places c.requires.1, unit_small c.args.places c.requires.1) }

pub int_to_float-result-2 : goal.int_to_float-result-2
unfolding in_float
int_to_float-result-2 c = le→leb _ _ (omega (arith, unit_is c.args.places c.requires.1, unit_small c.args.places c.requires.1))

pub returns : goal.returns
returns c = rw (unit_is c.args.places c.requires.1) (divided _ _ (omega (arith, mod-le c.args.digits (360 * 2 ^ c.args.places), c.requires.0)) (omega (arith, unit_small c.args.places c.requires.1)) (pow_pos c.args.places))
