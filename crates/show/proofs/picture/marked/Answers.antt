use Rattle.std.proofs.Common.{rules, tests, not, eqb, ◌∙◌}
use Rattle.std.proofs.lemmas.Iterator.{YieldsList-from_slice}
use Rattle.std.proofs.lemmas.Iterator.Consumers.{count_from_yields_List, YieldsList-from_filter}
use Rattle.show.proofs.Gaps.{marked_is}
use Rattle.show.proofs.picture.marked.Goals as goal

pub returns : goal.returns
returns c =
    count_from_yields_List _ _ c.count.ensures.ran
    (YieldsList-from_filter _ (λ m. not (eqb m 0)) (YieldsList-from_slice c.args.marks.now cc) c.filter.ensures.closure (λ x b q k. search (rules, tests)))
    ∙ marked_is c.args.marks.now
