use Rattle.std.specs.Slice.Iter.{iter_rest}
use Rattle.std.specs.Iterator.Adapters.{zip_first, zip_second}
use Rattle.tariff.specs.Tariff.{due}
use Rattle.tariff.proofs.Dues.{Adding}
use Rattle.tariff.proofs.charge.sum_of.Given as goal

abbrev pub invariant-loop-to : goal.invariant-loop-to
invariant-loop-to l = Adding l.total (iter_rest (zip_first l.to-iterator)) (iter_rest (zip_second l.to-iterator)) l.sum l.from (due l.total l.ends l.rates)
