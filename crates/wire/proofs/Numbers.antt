-- Laws of specs/Bytes.antt. Assumes nothing.
use Prim.Native.Nat.{ℕ, suc, ◌+◌, ◌-◌, ◌/◌, ◌%◌, ◌^◌, ◌≤◌, ◌<◌}
use native.Mathlib.Nat.{div-add-mod'}
use native.Mathlib.Omega.{arith}
use mathlib.Core.List.{List}
use mathlib.Core.Path.{◌≡◌, refl, sym}
use lib.ListN.{length, get_or, get_or-eq_default}
use mir.Syntax.{Width}
use mir.Val.{to_z, hbits, bits}
use mathlib.Core.Bool.{Bool, true, false, cond}
use lib.Dec.{ltb}
use lib.IntN.{pos, ◌-ℤ◌}
use borrow.Author.Tests.{le-leb, lt-leb, lt-ltb}
use Rattle.wire.specs.Bytes.{u16_at, signed, if_inside}

-- a byte past the end counts 0
pub past : (s : List ℕ) (at : ℕ) → length s ≤ at → 0 ≡ u16_at s at
unfolding u16_at
past s at h = omega (arith, get_or-eq_default s 0 h, get_or-eq_default s 0 {n = at + 1} (omega arith))

-- a halfword by two bytes, and the two by the halfword
pub half_of : (s : List ℕ) (i n : ℕ) → get_or s i 0 ≡ n / 256 → get_or s (i + 1) 0 ≡ n % 256 → n ≡ u16_at s i
unfolding u16_at
half_of s i n high low = rw (high, low) (sym (div-add-mod' n 256))

module _ (s : List ℕ) (i : ℕ) (high : get_or s i 0 < 256) (low : get_or s (i + 1) 0 < 256) where
  pub halves_of : (n : ℕ) → u16_at s i ≡ n → (get_or s i 0 ≡ n / 256) × (get_or s (i + 1) 0 ≡ n % 256)
  unfolding u16_at
  halves_of n e = (omega arith, omega arith)

  pub half_small : u16_at s i < 65536
  unfolding u16_at
  half_small = omega arith

-- the machine's reading of the bits is two's complement, at any width
pub twos : (w : Width) (half top n : ℕ) → 2 ^ hbits w ≡ half → 2 ^ bits w ≡ suc top → half + half ≡ suc top → n < suc top
    → to_z w n ≡ signed half n
unfolding signed
twos w half top n p q r k = go (ltb n half) refl
  where
    go : (b : Bool) → ltb n half ≡ b → to_z w n ≡ cond b (pos n) (pos n -ℤ pos (half + half))
    go true e = rw (p, q) (simp (e, lt-ltb n (suc top) k))
    go false e = rw (p, q, r) (simp (e, lt-ltb n (suc top) k))

-- a choice by `if_inside`, where r bytes are left: the n bytes are there, or are not
pub is_in : {A : Type 0} (s : List ℕ) (i n r : ℕ) (a b : A) → 0 < n → r ≡ length s - i → n ≤ r → a ≡ if_inside s i n a b
unfolding if_inside
is_in s i n r a b z e h = simp (le-leb (i + n) (length s) (omega arith))

pub is_out : {A : Type 0} (s : List ℕ) (i n r : ℕ) (a b : A) → r ≡ length s - i → r < n → b ≡ if_inside s i n a b
unfolding if_inside
is_out s i n r a b e h = simp (lt-leb (i + n) (length s) (omega arith))
