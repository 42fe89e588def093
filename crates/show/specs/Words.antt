-- The program's arguments: whole numbers, decimal numbers, the scheme's word, the word gaps. Assumes nothing.
use Rattle.std.specs.Prelude.{ℕ, ◌+◌, ◌-◌, ◌*◌, ◌^◌, Bool, cond, not, ◌&&◌, ◌||◌, List, [], ◌∷◌, ◌++◌, length, take, drop, pos, ◌==◌, nat_le, nat_lt, Option, Some, None, Float}
use Rattle.std.specs.Prelude as Std
use Rattle.wire.specs.Float.{f32, whole32, ◌⊘◌}
use Rattle.std.specs.Char.{is_ascii_digit}
use Rattle.std.specs.List.{prefix_len}
use Rattle.wire.specs.Text.{same}
use Rattle.scale.specs.declared.physical.Scheme.{Scheme}
use Rattle.show.specs.declared.words.BadScheme.{BadScheme}
use Rattle.show.specs.declared.words.NoClock.{NoClock}

-- one of the digits 0 to 9, in ASCII
abbrev pub is_digit : ℕ → Bool
is_digit = is_ascii_digit

-- the number that the digits of a text make after those of n; none at another byte, or above fifteen digits
unfoldable pub number_from : ℕ → List ℕ → Option ℕ
number_from n [] = Some n
number_from n (b ∷ bs) = cond (is_digit b) (cond (nat_lt 999999999999999 (n * 10 + (b - 48))) None (number_from (n * 10 + (b - 48)) bs)) None

-- no point, in ASCII
abbrev pub no_point : ℕ → Bool
no_point b = not (b == 46)

-- the place of the first point, or the length
unfoldable pub point_at : List ℕ → ℕ
point_at text = prefix_len no_point text

-- n / 10^k, rounded once: n of at most seven digits, k at most ten
unfoldable pub quotient_of : ℕ → ℕ → Option Float
quotient_of n k = cond (nat_le n 9999999 && nat_le k 10) (Some (whole32 (pos n) ⊘ f32 (10 ^ k) 1)) None

abbrev pub over : Option ℕ → ℕ → Option Float
over (Some n) k = quotient_of n k
over None k = None

-- a decimal number: at least one digit before the point and, where there is one, at least one after it. All the digits make the number, which
-- is over ten to the power of how many stand after the point
unfoldable pub decimal_of : List ℕ → Option Float
decimal_of text =
    cond (point_at text == 0 || point_at text + 1 == length text) None
    (over (number_from 0 (take (point_at text) text ++ drop (point_at text + 1) text)) (length (drop (point_at text + 1) text)))

-- a scheme with its number
abbrev pub with_number : (Float → Scheme) → Option Float → Std.Result Scheme BadScheme
with_number scheme (Some x) = Std.Ok (scheme x)
with_number scheme None = Std.Err BadScheme.BadNumber

-- the words in ASCII: halfword, float, class, precipitation:, legacy:, gaps
abbrev pub halfword : List ℕ
halfword = 104 ∷ 97 ∷ 108 ∷ 102 ∷ 119 ∷ 111 ∷ 114 ∷ 100 ∷ []

abbrev pub float : List ℕ
float = 102 ∷ 108 ∷ 111 ∷ 97 ∷ 116 ∷ []

abbrev pub class : List ℕ
class = 99 ∷ 108 ∷ 97 ∷ 115 ∷ 115 ∷ []

abbrev pub precipitation : List ℕ
precipitation = 112 ∷ 114 ∷ 101 ∷ 99 ∷ 105 ∷ 112 ∷ 105 ∷ 116 ∷ 97 ∷ 116 ∷ 105 ∷ 111 ∷ 110 ∷ 58 ∷ []

abbrev pub legacy : List ℕ
legacy = 108 ∷ 101 ∷ 103 ∷ 97 ∷ 99 ∷ 121 ∷ 58 ∷ []

abbrev pub gaps : List ℕ
gaps = 103 ∷ 97 ∷ 112 ∷ 115 ∷ []

-- the word begins so
abbrev pub begins : List ℕ → List ℕ → Bool
begins name word = same (take (length name) word) name

-- the scheme that a word names
unfoldable pub scheme_of : List ℕ → Std.Result Scheme BadScheme
scheme_of word =
    cond (same word halfword) (Std.Ok Scheme.Halfword)
    (cond (same word float) (Std.Ok Scheme.Float)
    (cond (same word class) (Std.Ok Scheme.Class)
    (cond (begins precipitation word) (with_number Scheme.Precipitation (decimal_of (drop (length precipitation) word)))
    (cond (begins legacy word) (with_number Scheme.Legacy (decimal_of (drop (length legacy) word)))
    (Std.Err BadScheme.Unknown)))))

-- a clock, which has at least one digit
abbrev pub clock_word : Option ℕ → Std.Result ℕ NoClock
clock_word (Some t) = Std.Ok t
clock_word None = Std.Err NoClock.Bad

abbrev pub clock_of : List ℕ → Std.Result ℕ NoClock
clock_of text = cond (length text == 0) (Std.Err NoClock.Bad) (clock_word (number_from 0 text))
