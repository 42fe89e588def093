use Rattle.std.proofs.Common.{◌≡◌, map, min, rules}
use Rattle.std.specs.Result.{IfOk}
use Rattle.std.proofs.lemmas.Iterator.{items_from_collect, YieldsList-from_map, YieldsList-from_slice}
use Rattle.replay.specs.Words.{word_of}
use Rattle.replay.specs.Lists.{list_of}
use Rattle.replay.proofs.charges.rates.Goals as goal

pub returns : goal.returns
returns c =
    let l : c.deref.result.now ≡ list_of (word_of c.args.case.line.now c.args.k) = search rules in
    let h : IfOk c.collect.result (λ v. v.items ≡ map (λ n. min n 4294967295) c.deref.result.now) =
    items_from_collect c.collect.result c.collect.ensures.ran
    (YieldsList-from_map _ (λ n. min n 4294967295) (YieldsList-from_slice _ cc) c.map.ensures.closure (λ x r q k. search rules)) in
    rw l at h
