-- Lists whose elements all pass a test: element by element, and the first that does not. Assumes nothing.
use Prim.Native.Nat.{ℕ, zero, suc, ◌<◌, suc-le-suc}
use native.Mathlib.Nat.{le_of_suc-le-suc, not-suc-le-zero}
use native.Mathlib.Omega.{arith}
use mathlib.Core.List.{List, [], ◌∷◌}
use mathlib.Core.Bool.{Bool, true, false, cond, ◌&&◌, false≢true}
use mathlib.Core.Path.{◌≡◌, refl, sym, ap}
use lib.ListN.{length, get_or}
use Rattle.wire.specs.Text.{all, leading}

module _ (p : ℕ → Bool) where
  -- where all pass, each does; one past the end counts 0
  pub all_at : (s : List ℕ) (k : ℕ) → p 0 ≡ true → all p s ≡ true → p (get_or s k 0) ≡ true
  all_at [] k z h = z
  all_at (x ∷ s) k z h = go (p x) refl k h (λ j e. all_at s j z e)
    where
      go : (b : Bool) → p x ≡ b → (k : ℕ) → b && all p s ≡ true → ((j : ℕ) → all p s ≡ true → p (get_or s j 0) ≡ true) → p (get_or (x ∷ s) k 0) ≡ true
      go true e zero h later = e
      go true e (suc k) h later = later k h
      go false e k h later = absurd (false≢true h)

  -- where each passes, all do
  pub all_of : (s : List ℕ) → ((k : ℕ) → k < length s → p (get_or s k 0) ≡ true) → all p s ≡ true
  all_of [] h = refl
  all_of (x ∷ s) h = rw (h 0 (omega arith)) (all_of s (λ k l. h (suc k) (suc-le-suc l)))

  -- where not all pass, one is left after those that lead
  pub not_all : (s : List ℕ) → all p s ≡ false → leading p s < length s
  unfolding leading
  not_all [] h = absurd (false≢true (sym h))
  not_all (x ∷ s) h = go (p x) (λ e. not_all s e) h
    where
      go : (b : Bool) → (all p s ≡ false → leading p s < length s) → b && all p s ≡ false → cond b (suc (leading p s)) 0 < suc (length s)
      go true later h = omega (arith, later h)
      go false later h = omega arith

  -- the first that does not pass
  pub first_not : (s : List ℕ) (k : ℕ) → k < length s → ((j : ℕ) → j < k → p (get_or s j 0) ≡ true) → p (get_or s k 0) ≡ false
      → (leading p s ≡ k) × (all p s ≡ false)
  unfolding leading
  first_not [] k h before e = absurd (not-suc-le-zero h)
  first_not (x ∷ s) zero h before e = (rw e, rw e)
  first_not (x ∷ s) (suc k) h before e =
      let r = first_not s k (le_of_suc-le-suc h) (λ j l. before (suc j) (suc-le-suc l)) e in
      rw (before 0 (omega arith)) (ap suc r.0, r.1)
