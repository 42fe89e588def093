use Rattle.std.proofs.Common.{◌≡◌, ◌/◌, length, rules, arith}
use Rattle.std.proofs.lemmas.Grind.{common_steps}
use Rattle.replay.specs.Hex.{bytes_of}
use Rattle.replay.proofs.Bytes.{read_whole}
use Rattle.replay.proofs.hex.read.Goals as goal

pub returns : goal.returns
returns c =
    let n : length c.deref_mut.result.now ≡ length c.args.word.now / 2 = search rules in
    let w : c.read_into.new.buf ≡ bytes_of c.args.word.now = read_whole _ _ _ _ n c.read_into.ensures.value c.read_into.ensures.buf_after in
    grind (arith, common_steps, w)
