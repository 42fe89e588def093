use Rattle.show.proofs.Decimals.{point_within, at_most, decimal_none, decimal_last, whole_bad, fraction_bad, decimal_read, whole_read}
use Rattle.show.specs.Words.{number_from}
use Rattle.wire.proofs.Walks.{part_rest}
use Rattle.std.proofs.Common.{sym, refl, ap, ◌∙◌, arith, length-take-le}
use Rattle.show.proofs.words.decimal_of.Goals as goal

pub returns-then-p-eq0 : goal.returns-then-p-eq0
returns-then-p-eq0 c = decimal_none c.args.text.now c.point-p.ensures c.if-p-eq0.true

pub slice_bounds-number_from-end : goal.slice_bounds-number_from-end
slice_bounds-number_from-end c = sym (length-take-le _ _ (omega (arith, c.point-p.ensures, point_within c.args.text.now)))

pub returns-in_err-whole : goal.returns-in_err-whole
returns-in_err-whole c = c.from_residual.ensures ∙ whole_bad c.args.text.now c.point-p.ensures c.in_err-whole.ensures

pub returns-then-p-text : goal.returns-then-p-text
returns-then-p-text c = whole_read c.args.text.now c.point-p.ensures c.in_ok-whole.ensures c.if-p-eq0.false c.if-p-text.true c.quotient.ensures

pub overflow_add-after : goal.overflow_add-after
overflow_add-after c = record { fits = omega (arith, c.point-p.ensures, point_within c.args.text.now) }

pub overflow_sub-k : goal.overflow_sub-k
overflow_sub-k c = omega (arith, c.point-p.ensures, point_within c.args.text.now)

pub returns-then-k-eq0 : goal.returns-then-k-eq0
returns-then-k-eq0 c = decimal_last c.args.text.now c.point-p.ensures (omega (arith, c.point-p.ensures, point_within c.args.text.now))

pub number_from-requires-2 : goal.number_from-requires-2
number_from-requires-2 c = at_most 0 _ (omega arith) c.in_ok-whole.ensures

pub returns-in_err-n : goal.returns-in_err-n
returns-in_err-n c =
    c.from_residual-in_err-n.ensures
    ∙ fraction_bad c.args.text.now c.point-p.ensures c.in_ok-whole.ensures (c.in_err-n.ensures ∙ ap (number_from _) (part_rest c.args.text.now _))

pub returns : goal.returns
returns c =
    decimal_read c.args.text.now c.point-p.ensures c.in_ok-whole.ensures c.if-p-eq0.false (λ l. c.if-k-eq0.false (omega arith))
    (c.in_ok-n.ensures ∙ ap (number_from _) (part_rest c.args.text.now _)) refl c.quotient-2.ensures
