use lib.Dec.{ltb}
use Rattle.std.proofs.Common.{rules, tests}
use Rattle.std.proofs.lemmas.List.Sorted.{answers_always}
use Rattle.tariff.proofs.Bands.{adjacent}
use Rattle.tariff.proofs.charge.is_ascending.Goals as goal

pub returns : goal.returns
returns c = adjacent _ _ (c.is_sorted_by.ensures.cases ltb (answers_always _ _ _ (λ f a r f' k. search (rules, tests))))
