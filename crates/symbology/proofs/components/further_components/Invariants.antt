use Rattle.symbology.specs.Walk.{in_mode, position}
use Rattle.symbology.specs.Symbology.{component}
use Rattle.xdr.specs.Xdr.{further}
use Rattle.wire.specs.Reading.{walk}
use Rattle.std.proofs.Common.{◌≡◌, ◌-◌}
use Rattle.symbology.proofs.components.further_components.Given as goal

abbrev pub invariant-loop : goal.invariant-loop
invariant-loop l = position (walk (in_mode l.gaps (further component l.n)) l.buf l.start) ≡ position (walk (in_mode l.gaps (further component (l.n - l.counter))) l.buf l.at)
