use Rattle.std.proofs.Common.{◌≡◌, true, false, rules, tests, ◌∙◌}
use Rattle.std.proofs.lemmas.Iterator.{first_from_Range}
use Rattle.head.proofs.Cut.{separated, first_separator}
use Rattle.head.proofs.header.piece_length.Goals as goal

pub returns : goal.returns
returns c =
    let s = c.args.s.now in
    let found = first_from_Range _ _ _ _ (λ k. separated s k ≡ true) (λ k. separated s k ≡ false) c.find.ensures.ran (λ x q k. search (rules, tests)) (λ x q k. search (rules, tests)) in
    c.unwrap_or.ensures ∙ first_separator s c.find.result found
