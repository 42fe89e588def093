use Rattle.std.proofs.Common.{◌≡◌, ◌-◌, arith, rules, ap, ◌∙◌}
use mathlib.Core.Logic.{⊎_elim, inl, inr}
use Rattle.std.specs.Slice.Iter.{iter_rest}
use Rattle.std.specs.Iterator.Adapters.{zip_first, zip_second}
use Rattle.tariff.proofs.Dues.{adding_first, adding_next, adding_end, product_fits, sum_fits}
use Rattle.tariff.proofs.charge.sum_of.Goals as goal

pub loop-to-init : goal.loop-to-init
loop-to-init c =
    let e : iter_rest (zip_first c.into_iter-to-iterator.result) ≡ c.args.ends.now = search rules in
    let r : iter_rest (zip_second c.into_iter-to-iterator.result) ≡ c.args.rates.now = search rules in
    rw (e, r) (adding_first c.requires.0 c.requires.1)

pub overflow_mul-sum : goal.overflow_mul-sum
overflow_mul-sum c = rw c.from-rate.ensures (omega (arith, product_fits c.loop-to.invariant c.in-Some.ensures.steps (c.saturating_sub-part.ensures ∙ ap (λ n. n - c.loop-to.from) c.min.ensures)))

pub overflow_add-sum : goal.overflow_add-sum
overflow_add-sum c = rw c.from-rate.ensures (omega (arith, sum_fits c.loop-to.invariant c.in-Some.ensures.steps (c.saturating_sub-part.ensures ∙ ap (λ n. n - c.loop-to.from) c.min.ensures)))

pub loop-to-preserved : goal.loop-to-preserved
loop-to-preserved c = rw c.from-rate.ensures (adding_next c.loop-to.invariant c.in-Some.ensures.steps (c.saturating_sub-part.ensures ∙ ap (λ n. n - c.loop-to.from) c.min.ensures) (omega arith))

pub returns : goal.returns
returns c = adding_end c.loop-to.invariant (⊎_elim (λ h. inl h.1.0) (λ h. inr h.1.0) c.in-None.ensures.steps)
