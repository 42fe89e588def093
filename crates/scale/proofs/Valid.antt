-- Valid codes: the tests of the code choose by `valid`, and how many there are. Assumes nothing.
use mathlib.Core.Path.{◌≡◌, refl, ◌∙◌}
use mathlib.Core.Bool.{Bool, true, false, cond}
use Prim.Native.Nat.{ℕ, zero, suc, ◌+◌, ◌-◌, ◌<◌, min}
use native.Mathlib.Omega.{arith}
use lib.Dec.{leb, ltb}
use borrow.Author.Tests.{leb-true, leb-false, le-ltb, lt-ltb}
use Rattle.std.specs.Prelude.{Some, None}
use Rattle.scale.specs.Scaling.{valid, count, level_count}

pub open_choice : {A : Type 0} (floor code : ℕ) (x y : A) → cond (valid floor None code) x y ≡ cond (ltb code floor) y x
open_choice floor code x y = go (leb floor code) refl
  where
    go : (t : Bool) → leb floor code ≡ t → cond (valid floor None code) x y ≡ cond (ltb code floor) y x
    go true h = rw (h, le-ltb code floor (leb-true floor code h))
    go false h = rw (h, lt-ltb code floor (leb-false floor code h))

pub capped_choice : {A : Type 0} (floor top code : ℕ) (x y : A)
    → cond (valid floor (Some top) code) x y ≡ cond (ltb top code) y (cond (valid floor None code) x y)
capped_choice floor top code x y = go (leb floor code) refl (leb code top) refl
  where
    go : (t : Bool) → leb floor code ≡ t → (u : Bool) → leb code top ≡ u
        → cond (valid floor (Some top) code) x y ≡ cond (ltb top code) y (cond (valid floor None code) x y)
    go true h true k = rw (h, k, le-ltb top code (leb-true code top k))
    go true h false k = rw (h, k, lt-ltb top code (leb-false code top k))
    go false h true k = rw (h, le-ltb top code (leb-true code top k))
    go false h false k = rw (h, lt-ltb top code (leb-false code top k))

-- ---- how many, of any number of codes

pub count_open : (floor n : ℕ) → count (valid floor None) n ≡ n - floor
unfolding count
count_open floor zero = omega arith
count_open floor (suc n) = go (count (valid floor None) n) (count_open floor n) (leb floor n) refl
  where
    go : (k : ℕ) → k ≡ n - floor → (t : Bool) → leb floor n ≡ t → k + cond (valid floor None n) 1 0 ≡ suc n - floor
    go k ih true h = rw h (omega (arith, leb-true floor n h))
    go k ih false h = rw h (omega (arith, leb-false floor n h))

pub count_capped : (floor top n : ℕ) → count (valid floor (Some top)) n ≡ min n (top + 1) - floor
unfolding count
count_capped floor top zero = omega arith
count_capped floor top (suc n) = go (count (valid floor (Some top)) n) (count_capped floor top n) (leb floor n) refl (leb n top) refl
  where
    go : (k : ℕ) → k ≡ min n (top + 1) - floor → (t : Bool) → leb floor n ≡ t → (u : Bool) → leb n top ≡ u
        → k + cond (valid floor (Some top) n) 1 0 ≡ min (suc n) (top + 1) - floor
    go k ih true h true j = rw (h, j) (omega (arith, leb-true floor n h, leb-true n top j))
    go k ih true h false j = rw (h, j) (omega (arith, leb-true floor n h, leb-false n top j))
    go k ih false h u j = rw h (omega (arith, leb-false floor n h))

-- ---- of the 65,536 codes of sixteen bits

pub levels_open : (floor : ℕ) → level_count floor None ≡ 65536 - floor
unfolding level_count
levels_open floor = count_open floor 65536

-- 0 where the ceiling is under the floor, else ceiling - floor + 1
pub levels_capped : (floor top : ℕ) → top < 65536 → level_count floor (Some top) ≡ top + 1 - floor
unfolding level_count
levels_capped floor top h = count_capped floor top 65536 ∙ omega arith
