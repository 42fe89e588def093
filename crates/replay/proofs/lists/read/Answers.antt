use Rattle.std.proofs.Common.{◌≡◌, false, length, rules, arith}
use Rattle.std.proofs.lemmas.Grind.{common_steps}
use Rattle.std.proofs.lemmas.Iterator.Consumers.{count_from_yields_List}
use Rattle.std.proofs.lemmas.Iterator.Splits.{YieldsList-from_slice_split}
use lib.Dec.{eqb}
use Rattle.replay.specs.Lists.{is_none, pieces, list_of}
use Rattle.replay.proofs.Entries.{list_whole}
use Rattle.replay.proofs.lists.read.Goals as goal

pub returns : goal.returns
returns c =
    let none : is_none c.args.word.now ≡ false = search rules in
    let n : c.count-n.result ≡ length (pieces c.args.word.now) =
    count_from_yields_List _ _ c.count-n.ensures.ran
    (YieldsList-from_slice_split _ (λ b. eqb b 44) c.args.word.now c.split.ensures.rest c.split.ensures.done
    c.split.ensures.closure (λ x b q k. search rules)) in
    let l : length c.deref_mut.result.now ≡ c.count-n.result = search rules in
    let w : c.read_into.new.buf ≡ list_of c.args.word.now = list_whole _ _ _ _ none (omega arith) c.read_into.ensures.value c.read_into.ensures.buf_after in
    grind (arith, common_steps, w)
