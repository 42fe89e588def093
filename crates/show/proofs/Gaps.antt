-- The count of marked radials by the library's filter. Assumes nothing.
use Rattle.std.proofs.Common.{◌≡◌, ℕ, ◌+◌, Bool, true, false, cond, not, eqb, List, [], ◌∷◌, length, refl, arith}
use Rattle.std.specs.List.{filter}
use Rattle.show.specs.Gaps.{marked}

pub marked_is : (marks : List ℕ) → length (filter (λ m. not (eqb m 0)) marks) ≡ marked marks
unfolding marked
marked_is [] = refl
marked_is (m ∷ ms) = go (eqb m 0) (marked_is ms)
  where
    go : (b : Bool) → length (filter (λ m. not (eqb m 0)) ms) ≡ marked ms → length (cond (not b) (m ∷ filter (λ m. not (eqb m 0)) ms) (filter (λ m. not (eqb m 0)) ms)) ≡ cond b 0 1 + marked ms
    go true e = omega arith
    go false e = omega arith
