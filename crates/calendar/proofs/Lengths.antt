-- Laws of the months' lengths. Assumes nothing.
use Prim.Native.Nat.{ℕ, ◌≤◌}
use native.Mathlib.Omega.{arith}
use mathlib.Core.Bool.{Bool, true, false, cond, ◌||◌}
use mathlib.Core.Logic.{◌⊎◌, inl, inr}
use mathlib.Core.Path.{◌≡◌, sym, ap, ◌∙◌}
use lib.Dec.{eqb}
use borrow.Author.Tests.{ne_eqb}
use Rattle.calendar.specs.Calendar.{leap, month_length}

-- February, by the test of the year
pub february : (year : ℕ) {month : ℕ} {b : Bool} → month ≡ 2 → leap year ≡ b → cond b 29 28 ≡ month_length year month
unfolding month_length
february year e l = sym (ap (month_length year) e ∙ ap (λ x. cond x 29 28) l)

-- the months of 30 days
abbrev Short : ℕ → Type 0
Short month = (month ≡ 4) ⊎ ((month ≡ 6) ⊎ ((month ≡ 9) ⊎ (month ≡ 11)))

pub thirty : (year : ℕ) {month : ℕ} → Short month → 30 ≡ month_length year month
unfolding month_length
thirty year (inl e) = ap (month_length year) (sym e)
thirty year (inr (inl e)) = ap (month_length year) (sym e)
thirty year (inr (inr (inl e))) = ap (month_length year) (sym e)
thirty year (inr (inr (inr e))) = ap (month_length year) (sym e)

pub the_others : (year month : ℕ) → (month ≡ 2 → ⊥) → (Short month → ⊥) → 31 ≡ month_length year month
unfolding month_length
the_others year month h k =
    simp (
      ne_eqb month 2 h,
      ne_eqb month 4 (λ e. k (inl e)),
      ne_eqb month 6 (λ e. k (inr (inl e))),
      ne_eqb month 9 (λ e. k (inr (inr (inl e)))),
      ne_eqb month 11 (λ e. k (inr (inr (inr e)))),
    )

-- each is 28 to 31
pub record Length (n : ℕ) : Type 0 where
  pub at_least : 28 ≤ n
  pub at_most : n ≤ 31

either : (b : Bool) {x y : ℕ} → Length x → Length y → Length (cond b x y)
either true p q = p
either false p q = q

pub a_length : (year month : ℕ) → Length (month_length year month)
unfolding month_length
a_length year month =
    either (eqb month 2)
    (either (leap year) (record { at_least = omega arith; at_most = omega arith }) (record { at_least = omega arith; at_most = omega arith }))
    (either (eqb month 4 || eqb month 6 || eqb month 9 || eqb month 11)
    (record { at_least = omega arith; at_most = omega arith }) (record { at_least = omega arith; at_most = omega arith }))
