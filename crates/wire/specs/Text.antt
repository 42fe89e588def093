-- Lists of bytes as text: whether a byte is in one, whether two are equal, whether all bytes pass a test, how many at the front do, what is
-- left once an end is trimmed.
use Rattle.std.specs.Prelude.{ℕ, suc, List, [], ◌∷◌, Bool, cond, eqb}
use Rattle.std.specs.List.{list_all, list_any}
use Rattle.std.specs.Str.{bytes_eq}

-- n is in the list
abbrev pub member : ℕ → List ℕ → Bool
member n = list_any (λ x. eqb x n)

-- the same bytes, as many and in order
abbrev pub same : List ℕ → List ℕ → Bool
same = bytes_eq

abbrev pub all : (ℕ → Bool) → List ℕ → Bool
all = list_all

abbrev pub is_zero : ℕ → Bool
is_zero x = eqb x 0

-- without the bytes at the front that pass the test
unfoldable pub trim_front : (ℕ → Bool) → List ℕ → List ℕ
trim_front p [] = []
trim_front p (x ∷ s) = cond (p x) (trim_front p s) (x ∷ s)

-- how many bytes at the front pass the test
unfoldable pub leading : (ℕ → Bool) → List ℕ → ℕ
leading p [] = 0
leading p (x ∷ s) = cond (p x) (suc (leading p s)) 0

-- x in front of s; nothing where s is empty and x passes the test
abbrev pub unless : (ℕ → Bool) → ℕ → List ℕ → List ℕ
unless p x [] = cond (p x) [] (x ∷ [])
unless p x (y ∷ s) = x ∷ y ∷ s

-- without the bytes at the end that pass the test
unfoldable pub trim_end : (ℕ → Bool) → List ℕ → List ℕ
trim_end p [] = []
trim_end p (x ∷ s) = unless p x (trim_end p s)
