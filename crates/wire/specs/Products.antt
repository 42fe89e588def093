-- products.rs: the known message codes.
use Rattle.std.specs.Prelude.{ℕ, ◌<◌, List, [], ◌∷◌, Bool, true, false, ◌&&◌, length, get_or, ltb, ℤ, pos, negsuc}
use Rattle.wire.specs.Text.{member}

unfoldable pub codes : List ℕ
codes =
    19 ∷ 20 ∷ 25 ∷ 27 ∷ 28 ∷ 30 ∷ 56 ∷ 78 ∷ 79 ∷ 80 ∷ 94 ∷ 99 ∷ 153 ∷ 154 ∷ 155 ∷ 159 ∷ 161 ∷ 163 ∷ 165 ∷ 170 ∷ 172 ∷ 173 ∷ 174
    ∷ 175 ∷ 176 ∷ 177 ∷ []

-- one of the known codes; no negative number is
unfoldable pub known : ℤ → Bool
known (pos n) = member n codes
known (negsuc n) = false

-- each number is below every later one: ascending, and none stands twice
abbrev pub Ascending : List ℕ → Type 0
Ascending s = (i j : ℕ) → i < j → j < length s → get_or s i 0 < get_or s j 0

-- the same as a test: each number is below the next
unfoldable pub climbs : List ℕ → Bool
climbs [] = true
climbs (x ∷ []) = true
climbs (x ∷ y ∷ s) = ltb x y && climbs (y ∷ s)
