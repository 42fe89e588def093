use Rattle.std.proofs.Common.{◌≡◌, ℕ, ◌+◌, ◌-◌, ◌/◌, ◌^◌, ◌<◌, ◌≤◌, Bool, true, false, cond, nat_lt, sym, refl, ap, ◌∙◌, arith, ltb-false}
use Rattle.std.proofs.Math.Pow.{pow_mono}
use Rattle.std.proofs.lemmas.Nat.{shr_le}
use native.Mathlib.Nat.{div-eq_of_lt}
use Rattle.show.specs.Rounded.{rounded}
use Rattle.show.proofs.floats.nearest.Goals as goal

-- nothing is left of n after 64 halvings
shifted : (n k : ℕ) → n < 2 ^ 63 → cond (nat_lt k 64) (n / 2 ^ k) 0 ≡ n / 2 ^ k
shifted n k h = go (nat_lt k 64) refl
  where
    go : (b : Bool) → nat_lt k 64 ≡ b → cond b (n / 2 ^ k) 0 ≡ n / 2 ^ k
    go true e = refl
    go false e =
        let m : 2 ^ 64 ≤ 2 ^ k = pow_mono (ltb-false _ _ e) in
        sym (div-eq_of_lt (omega arith))

pub overflow_add-result : goal.overflow_add-result
overflow_add-result c = record { fits = omega (arith, c.unbounded_shr.ensures ∙ shifted c.args.n (c.args.shift - 1) c.requires.0, shr_le c.args.n (c.args.shift - 1)) }

pub returns : goal.returns
unfolding rounded
returns c = ap (λ k. (k + 1) / 2) (c.unbounded_shr.ensures ∙ shifted c.args.n (c.args.shift - 1) c.requires.0)
