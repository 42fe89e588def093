use mathlib.Core.Path.{◌∙◌}
use mir.Facts.{to_z-of_z}
use mir.Syntax.{w16}
use Rattle.wire.proofs.Results.{returned}
use Rattle.export.proofs.Original.{head_refused, head_code, head_cut, head_counts, head_long, head_whole}
use borrow.Author.Rules.{rules}
use Rattle.export.proofs.header.read_header.Goals as goal

pub returns-in_err-code : goal.returns-in_err-code
returns-in_err-code c = rw (returned c.from_residual.ensures.1) (head_refused _ c.in_err-code.ensures)

pub returns-then-code : goal.returns-then-code
returns-then-code c = head_code _ c.in_ok-code.ensures c.if-code.true (to_z-of_z {w = w16} {z = c.as_i16.result} (search rules) ∙ c.as_i16.ensures)

pub returns-then-len-lt30 : goal.returns-then-len-lt30
returns-then-len-lt30 c = head_cut _ c.in_ok-code.ensures c.if-code.false c.if-len-lt30.true

pub returns-in_err-header : goal.returns-in_err-header
returns-in_err-header c = rw (returned c.from_residual-in_err-header.ensures.1) (head_counts _ c.in_ok-code.ensures c.if-code.false c.if-len-lt30.false c.count_at-first.ensures.0 c.in_err-header.ensures)

pub returns-then-header-eq-TOO_MANY_BINS : goal.returns-then-header-eq-TOO_MANY_BINS
returns-then-header-eq-TOO_MANY_BINS c = head_long _ c.in_ok-code.ensures c.if-code.false c.if-len-lt30.false c.count_at-first.ensures.0 c.in_ok-header.ensures c.if-header-eq-TOO_MANY_BINS.true

pub returns : goal.returns
returns c = head_whole _ c.in_ok-code.ensures c.if-code.false c.if-len-lt30.false c.count_at-first.ensures.0 c.in_ok-header.ensures c.if-header-eq-TOO_MANY_BINS.false
