-- A list made of the numbers from a on, read at a place. Assumes nothing.
use mathlib.Core.Path.{◌≡◌, sym, ap, ◌∙◌}
use mathlib.Core.List.{List, [], ◌∷◌, map}
use Prim.Native.Nat.{ℕ, zero, suc, ◌+◌, ◌<◌}
use native.Mathlib.Nat.{not-suc-le-zero, le_of_suc-le-suc, add-zero}
use native.Mathlib.Omega.{arith}
use lib.ListN.{get_or}

-- n numbers from a on
abbrev pub count : ℕ → ℕ → List ℕ
count a zero = []
count a (suc n) = a ∷ count (suc a) n

pub counted : {A : Type 0} (f : ℕ → A) (z : A) (n a k : ℕ) → k < n → get_or (map f (count a n)) k z ≡ f (a + k)
counted f z zero a k h = absurd (not-suc-le-zero h)
counted f z (suc n) a zero h = ap f (sym (add-zero a))
counted f z (suc n) a (suc k) h =
    let e : suc a + k ≡ a + suc k = omega arith in
    counted f z n (suc a) k (le_of_suc-le-suc h) ∙ ap f e
