use Rattle.std.proofs.Common.{arith, length, List, [], ◌∷◌, ℕ, ◌≡◌, refl, sym, ap, ◌∙◌, eq-eqb}
use borrow.Author.Tests.{ne_eqb}
use Rattle.wire.specs.Text.{is_zero, trim_end}
use Rattle.wire.proofs.Ends.{trim_last, trim_done}
use Rattle.wire.proofs.text.trimmed_len.Goals as goal

pub loop-kept-preserved : goal.loop-kept-preserved
loop-kept-preserved c = trim_last is_zero _ c.in-len1-up.len_at_least (eq-eqb _ _ c.if-last-ne0.false) ∙ c.loop-kept.invariant

empty : (s : List ℕ) → length s ≡ 0 → length s ≡ length (trim_end is_zero s)
unfolding trim_end
empty [] e = refl
empty (x ∷ s) e = absurd (omega arith)

pub returns-in_default : goal.returns-in_default
returns-in_default c = empty _ (omega (arith, c.in_default.len_below)) ∙ ap length c.loop-kept.invariant

pub returns-then-last-ne0 : goal.returns-then-last-ne0
returns-then-last-ne0 c = sym (ap length (trim_done is_zero _ c.in-len1-up.len_at_least (ne_eqb _ _ c.if-last-ne0.true))) ∙ ap length c.loop-kept.invariant
