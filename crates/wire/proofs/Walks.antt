-- Walks over a list. `g i t` is the answer once i elements are passed and t is left: a loop keeps it equal to the whole answer, `g 0 s`.
-- Assumes nothing.
use Prim.Native.Nat.{ℕ, ◌-◌, ◌≤◌}
use native.Mathlib.Omega.{arith}
use mathlib.Core.List.{List, [], ◌∷◌}
use mathlib.Core.Path.{◌≡◌, refl}
use mathlib.Core.Bool.{false, ◌||◌}
use lib.ListN.{length, take, drop, length-drop}
use lib.Seq.{take_all}
use lib.Dec.{eqb}
use Rattle.wire.specs.Text.{member}

pub record Walk {A : Type 0} (g : ℕ → List ℕ → A) (s : List ℕ) (i : ℕ) : Type 0 where
  pub within : i ≤ length s
  pub left : g i (drop i s) ≡ g 0 s

-- a part to the end, `&s[a..]`
pub part_rest : (s : List ℕ) (a : ℕ) → take (length s - a) (drop a s) ≡ drop a s
part_rest s a = take_all (length s - a) (drop a s) (omega (arith, length-drop a s))

pub walk_first : {A : Type 0} (g : ℕ → List ℕ → A) (s : List ℕ) → Walk g s 0
walk_first g s = record { within = omega arith; left = refl }

-- `member`, element by element
pub member_none : (n : ℕ) → member n [] ≡ false
member_none n = refl

pub member_more : (n m : ℕ) (s : List ℕ) → member n (m ∷ s) ≡ (eqb m n || member n s)
member_more n m s = refl
