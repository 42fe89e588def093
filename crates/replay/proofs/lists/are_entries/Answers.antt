use Rattle.std.proofs.Common.{◌≡◌, rules, length, true, false, ◌&&◌, sym, ap, ◌∙◌, arith, le-leb}
use borrow.Author.Tests.{lt-leb}
use lib.Dec.{eqb, leb}
use Rattle.std.specs.List.{list_all}
use Rattle.std.proofs.lemmas.Iterator.{cases_from_all}
use Rattle.std.proofs.lemmas.Iterator.Consumers.{count_from_yields_List}
use Rattle.std.proofs.lemmas.Iterator.Splits.{YieldsList-from_slice_split}
use Rattle.replay.specs.Lists.{pieces, is_entry}
use Rattle.replay.proofs.Pieces.{all_is}
use Rattle.replay.proofs.lists.are_entries.Goals as goal

pub returns-then-count-le4096 : goal.returns-then-count-le4096
returns-then-count-le4096 c =
    let n : c.count.result ≡ length (pieces c.args.word.now) = count_from_yields_List _ _ c.count.ensures.ran (YieldsList-from_slice_split _ (λ b. eqb b 44) c.args.word.now c.split.ensures.rest c.split.ensures.done c.split.ensures.closure (λ x b q k. search rules)) in
    let f : c.all.result ≡ list_all (is_entry c.args.most) (pieces c.args.word.now) = all_is _ _ _ (cases_from_all _ _ _ (λ x. is_entry c.args.most x ≡ true) (λ x. is_entry c.args.most x ≡ false) c.all.ensures.ran (YieldsList-from_slice_split _ (λ b. eqb b 44) c.args.word.now c.split-then-count-le4096.ensures.rest c.split-then-count-le4096.ensures.done c.split-then-count-le4096.ensures.closure (λ x b q k. search rules)) (λ x q k. search rules) (λ x q k. search rules)) in
    f ∙ ap (λ b. b && list_all (is_entry c.args.most) (pieces c.args.word.now)) (sym (le-leb (length (pieces c.args.word.now)) 4096 (omega arith)))

pub returns-else-count-le4096 : goal.returns-else-count-le4096
returns-else-count-le4096 c =
    let n : c.count.result ≡ length (pieces c.args.word.now) = count_from_yields_List _ _ c.count.ensures.ran (YieldsList-from_slice_split _ (λ b. eqb b 44) c.args.word.now c.split.ensures.rest c.split.ensures.done c.split.ensures.closure (λ x b q k. search rules)) in
    let l : leb (length (pieces c.args.word.now)) 4096 ≡ false = lt-leb (length (pieces c.args.word.now)) 4096 (omega arith) in
    ap (λ m. leb m 4096) n ∙ l ∙ ap (λ b. b && list_all (is_entry c.args.most) (pieces c.args.word.now)) (sym l)
