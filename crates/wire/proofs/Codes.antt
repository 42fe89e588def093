-- Lists that ascend, by the test and element by element; the table of codes by computation; the signed code. Assumes nothing.
use Prim.Native.Nat.{ℕ, zero, suc, ◌<◌, suc-le-suc}
use native.Mathlib.Nat.{not-suc-le-zero, le_of_suc-le-suc, lt_trans}
use native.Mathlib.Omega.{arith}
use mathlib.Core.List.{List, [], ◌∷◌}
use mathlib.Core.Path.{◌≡◌, refl}
use mathlib.Core.Bool.{Bool, true, false, ◌&&◌}
use lib.ListN.{length, get_or}
use lib.Dec.{ltb}
use borrow.Author.Tests.{ltb-true, lt-ltb}
use Rattle.wire.specs.Products.{codes, Ascending, climbs}

-- ---- ascending

pub both : (a b : Bool) → a && b ≡ true → (a ≡ true) × (b ≡ true)
both true b h = (refl, h)
both false b h = let z : ◌≡◌ {A = ℕ} 0 1 = cc in absurd (omega arith)

-- the first is below every later one
first_below : (x : ℕ) (s : List ℕ) → climbs (x ∷ s) ≡ true → (j : ℕ) → j < length s → x < get_or s j 0
unfolding climbs
first_below x [] h j k = absurd (not-suc-le-zero k)
first_below x (y ∷ s) h zero k = ltb-true x y (both _ _ h).0
first_below x (y ∷ s) h (suc j) k =
    lt_trans (ltb-true x y (both _ _ h).0) (first_below y s (both (ltb x y) _ h).1 j (le_of_suc-le-suc k))

rest_climbs : (x : ℕ) (s : List ℕ) → climbs (x ∷ s) ≡ true → climbs s ≡ true
unfolding climbs
rest_climbs x [] h = refl
rest_climbs x (y ∷ s) h = (both (ltb x y) _ h).1

pub ascends : (s : List ℕ) → climbs s ≡ true → Ascending s
ascends [] h i j l k = absurd (not-suc-le-zero k)
ascends (x ∷ s) h i zero l k = absurd (not-suc-le-zero l)
ascends (x ∷ s) h zero (suc j) l k = first_below x s h j (le_of_suc-le-suc k)
ascends (x ∷ s) h (suc i) (suc j) l k = ascends s (rest_climbs x s h) i j (le_of_suc-le-suc l) (le_of_suc-le-suc k)

pub climbing : (s : List ℕ) → Ascending s → climbs s ≡ true
unfolding climbs
climbing [] h = refl
climbing (x ∷ []) h = refl
climbing (x ∷ y ∷ s) h =
    rw (lt-ltb x y (h 0 1 (omega arith) (omega arith))) (climbing (y ∷ s) (λ i j l k. h (suc i) (suc j) (suc-le-suc l) (suc-le-suc k)))

-- the table is ascending, with no repeats
pub codes_ascending : Ascending codes
unfolding codes climbs
codes_ascending = ascends codes refl

-- ---- the signed code
