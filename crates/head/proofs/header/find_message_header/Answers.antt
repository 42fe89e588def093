use Rattle.std.proofs.Common.{◌≡◌, false, true, rules, tests, ap, ◌∙◌, ◌-◌}
use Rattle.wire.specs.Result.{answer}
use Rattle.std.proofs.lemmas.Iterator.{first_from_Range}
use Rattle.head.specs.Header.{header_at, message_header, first_of}
use Rattle.head.proofs.Search.{first_found}
use Rattle.head.proofs.header.find_message_header.Goals as goal

pub returns : goal.returns
unfolding message_header
returns c =
    let p = header_at c.args.file.now in
    let found = first_from_Range _ _ _ _ (λ k. p k ≡ true) (λ k. p k ≡ false) c.find.ensures.ran (λ x q k. search (rules, tests)) (λ x q k. search (rules, tests)) in
    ap answer c.ok_or.ensures.value ∙ first_found p _ c.find.result found ∙ ap (first_of p 0) (c.saturating_sub-end.ensures ∙ ap (λ n. n - 20) c.min.ensures)
