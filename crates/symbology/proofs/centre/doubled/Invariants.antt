use Rattle.std.proofs.Common.{◌≡◌, ◌*◌, ◌%◌, ◌^◌, ◌<◌}
use Rattle.symbology.proofs.centre.doubled.Given as goal

abbrev pub invariant-loop : goal.invariant-loop
invariant-loop l = (l.rest < 360) × (l.rest ≡ l.n * 2 ^ l.counter % 360)
