-- Rows of a buffer by rows: their values, and what stands after the last. Assumes nothing.
use Prim.Native.Nat.{ℕ, zero, suc, ◌+◌, ◌*◌, ◌<◌, ◌≤◌}
use native.Mathlib.Omega.{arith}
use native.Mathlib.Nat.{suc-mul, mul-le-mul_right}
use mathlib.Core.List.{List, [], ◌∷◌, ◌++◌, map}
use mathlib.Core.Path.{◌≡◌, refl, ap, ◌∙◌}
use lib.ListN.{length, take, drop, length-drop}
use lib.Seq.{take-append-le, drop-append-le}
use Rattle.sweep.specs.Demand3.{row_at}

module _ {A B : Type 0} (f : A → B) where
  map_take : (n : ℕ) (xs : List A) → take n (map f xs) ≡ map f (take n xs)
  map_take zero xs = refl
  map_take (suc n) [] = refl
  map_take (suc n) (x ∷ xs) = ap (λ l. f x ∷ l) (map_take n xs)

  map_drop : (n : ℕ) (xs : List A) → drop n (map f xs) ≡ map f (drop n xs)
  map_drop zero xs = refl
  map_drop (suc n) [] = refl
  map_drop (suc n) (x ∷ xs) = map_drop n xs

  -- a row of values is the values of the row
  pub row_values : (bins r : ℕ) (xs : List A) → row_at bins r (map f xs) ≡ map f (row_at bins r xs)
  row_values bins r xs = ap (take bins) (map_drop (r * bins) xs) ∙ map_take bins (drop (r * bins) xs)

-- where n rows are there, what stands after them is in none
pub row_front : {A : Type 0} (bins n r : ℕ) (xs rest : List A) → length xs ≡ n * bins → r < n → row_at bins r (xs ++ rest) ≡ row_at bins r xs
row_front bins n r xs rest long lt =
    let e : suc r * bins ≤ n * bins = mul-le-mul_right bins lt in
    let k : r * bins + bins ≤ length xs = rw (long, ← (suc-mul r bins)) e in
    ap (take bins) (drop-append-le (r * bins) xs rest (omega arith))
    ∙ take-append-le bins (drop (r * bins) xs) rest (rw length-drop (omega arith))
