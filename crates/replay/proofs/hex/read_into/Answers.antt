use Rattle.std.proofs.Common.{length, rules, arith}
use Rattle.replay.proofs.Copied.{copied_first}
use Rattle.replay.proofs.Bytes.{bytes_in_long, read_turn, read_end}
use Rattle.replay.proofs.hex.read_into.Goals as goal

pub loop-i-init : goal.loop-i-init
loop-i-init c = copied_first _ _ (omega (arith, bytes_in_long (length c.args.buf.now) c.args.word.now))

pub loop-i-preserved : goal.loop-i-preserved
loop-i-preserved c = read_turn _ _ _ c.loop-i.invariant (search rules) (search rules) c.byte_of.ensures

pub returns : goal.returns
returns c =
    let e = read_end _ _ _ c.loop-i.invariant (omega arith) c.loop-i-test.false in
    record { value = e.0; buf_after = e.1.0; prefix_len = e.1.1 }
