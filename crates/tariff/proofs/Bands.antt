-- The test of ascending ends, as the code makes it. Assumes nothing.
use Prim.Native.Nat.{ℕ, zero, suc, ◌+◌, ◌<◌}
use lib.ListN.{length, get_or}
use native.Mathlib.Omega.{arith}
use mathlib.Core.Bool.{Bool, true, false, ◌&&◌, and-false}
use mathlib.Core.List.{List, [], ◌∷◌}
use mathlib.Core.Path.{◌≡◌, refl, sym, ap, ◌∙◌}
use lib.Dec.{ltb}
use Rattle.std.specs.List.{IsAllAdjacentAnswer}
use Rattle.wire.specs.Products.{climbs}

rise : (s : List ℕ) → ((k d : ℕ) → k + 1 < length s → true ≡ ltb (get_or s k d) (get_or s (k + 1) d)) → true ≡ climbs s
unfolding climbs
rise [] h = refl
rise (x ∷ []) h = refl
rise (x ∷ y ∷ s) h =
    rw (sym (h 0 0 (omega arith))) (rise (y ∷ s) (λ k d l. let e : suc k + 1 ≡ suc (k + 1) = omega arith in rw e at (h (suc k) d (omega arith))))

fall : (s : List ℕ) (k : ℕ) → k + 1 < length s → false ≡ ltb (get_or s k 0) (get_or s (k + 1) 0) → false ≡ climbs s
unfolding climbs
fall [] k l h = absurd (omega arith)
fall (x ∷ []) k l h = absurd (omega arith)
fall (x ∷ y ∷ s) zero l h = rw (sym h) refl
fall (x ∷ y ∷ s) (suc k) l h =
    let e : suc k + 1 ≡ suc (k + 1) = omega arith in
    sym (ap (λ b. ltb x y && b) (sym (fall (y ∷ s) k (omega arith) (rw e at h))) ∙ and-false (ltb x y))

pub adjacent : (s : List ℕ) (r : Bool) → IsAllAdjacentAnswer (λ x y b. b ≡ ltb x y) s r → r ≡ climbs s
adjacent s true h = rise s h
adjacent s false h = fall s h.0 h.1 (h.2 0)
