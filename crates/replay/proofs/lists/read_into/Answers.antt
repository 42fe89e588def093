use Rattle.std.proofs.Common.{◌≡◌, ◌+◌, false, take_all, length-drop, rules, arith}
use Rattle.replay.specs.Lists.{is_none}
use Rattle.replay.proofs.Entries.{entered_first, entered_next, entered_last, entered_end, none_read}
use Rattle.replay.proofs.lists.read_into.Goals as goal

pub returns-then-eq : goal.returns-then-eq
returns-then-eq c =
    let e = none_read c.args.word.now c.args.buf.now (search rules) in
    record { value = e.0; buf_after = e.1.0; prefix_len = e.1.1 }

pub loop-i-init : goal.loop-i-init
loop-i-init c = entered_first _ _

pub returns-then-n-rest : goal.returns-then-n-rest
returns-then-n-rest c =
    let none : is_none c.args.word.now ≡ false = search rules in
    let e = entered_last c.loop-i.invariant c.loop-i-test.true c.letters-n.ensures.value c.number.ensures none c.if-n-rest.true in
    record { value = e.0; buf_after = e.1.0; prefix_len = e.1.1 }

pub loop-i-preserved : goal.loop-i-preserved
loop-i-preserved c =
    entered_next c.loop-i.invariant c.loop-i-test.true c.letters-n.ensures.value c.number.ensures c.if-n-rest.false
    (take_all _ _ (omega (arith, length-drop (c.letters-n.result + 1) c.loop-i.rest.now)))

pub returns : goal.returns
returns c =
    let none : is_none c.args.word.now ≡ false = search rules in
    let e = entered_end c.loop-i.invariant none c.loop-i-test.false c.loop-i.auto.buf in
    record { value = e.0; buf_after = e.1.0; prefix_len = e.1.1 }
