use Rattle.export.proofs.Laying.{Laying}
use Rattle.export.specs.Export.{export_walk, count_for}
use Rattle.symbology.specs.Walk.{Accepted}
use Rattle.wire.specs.Reading.{run}
use Prim.Native.Nat.{◌+◌}
use mathlib.Core.Path.{◌≡◌}
use Rattle.export.proofs.radials.write_radials.Given as goal

abbrev pub invariant-loop : goal.invariant-loop
invariant-loop l = (l.size ≡ 6 + count_for l.n_bins) × ((acc : Accepted (run (export_walk l.n_radials l.n_bins l.n_radials 0) l.body 30)) × Laying l.n_radials l.n_bins l.body acc.0 l.initial.out l.out l.at l.place l.counter)
