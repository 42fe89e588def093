use Rattle.std.proofs.Common.{◌≡◌, sym, ap, ◌∙◌, rules, tests, option_map}
use Rattle.std.proofs.lemmas.Iterator.Adapters.{option_map_id}
use Rattle.std.proofs.lemmas.Iterator.Consumers.{YieldsList-from_first}
use Rattle.std.proofs.lemmas.Iterator.Search.{find_from_yields_List}
use Rattle.fields.specs.declared.plan.Entry.{Entry}
use Rattle.fields.specs.declared.plan.Records.{Records}
use Rattle.fields.specs.Plan.{entries_from, entries_of, leaves}
use Rattle.fields.proofs.Walk.{outside_found}
use Rattle.fields.proofs.plan.first_outside.Goals as goal

pub returns : goal.returns
returns c =
    let found = find_from_yields_List (λ (e : Entry). leaves c.args.radials c.args.bins e.item) c.find.new.self _ c.find.result c.find.ensures.ran
    (YieldsList-from_first (λ x. x) (λ (s : Records). entries_from s.plan.now s.at) (entries_of c.args.plan.now) c.records_of.ensures)
    (λ x r q k. search (rules, tests)) in
    let mapped : c.map.result ≡ option_map (λ (e : Entry). e.at) c.find.result = search rules in
    mapped ∙ ap (option_map (λ (e : Entry). e.at)) (sym (option_map_id c.find.result) ∙ found) ∙ outside_found c.args.radials c.args.bins (entries_of c.args.plan.now)
