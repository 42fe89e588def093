use Rattle.std.proofs.Common.{◌∙◌, rules, tests}
use Rattle.std.proofs.lemmas.Iterator.Consumers.{YieldsList-from_first, YieldsList-from_filter, YieldsList-at, count_from_yields_List}
use Rattle.fields.specs.declared.plan.Entry.{Entry}
use Rattle.fields.specs.declared.plan.Records.{Records}
use Rattle.fields.specs.Plan.{entries_from, entries_of}
use Rattle.fields.proofs.Walk.{is_field, fields_found}
use Rattle.fields.proofs.plan.count_fields.Goals as goal

pub returns : goal.returns
returns c =
    count_from_yields_List c.filter.result c.count.result c.count.ensures.ran
    (YieldsList-from_filter _ (λ (e : Entry). is_field e.item)
    (YieldsList-at c.filter.ensures.source (YieldsList-from_first (λ x. x) (λ (s : Records). entries_from s.plan.now s.at) (entries_of c.args.plan.now) c.records_of.ensures))
    c.filter.ensures.closure (λ x r q k. search (rules, tests)))
    ∙ fields_found (entries_of c.args.plan.now)
