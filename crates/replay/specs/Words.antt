-- The words of a line, and the numbers that they spell. Assumes nothing.
use Rattle.std.specs.Prelude.{ℕ, zero, suc, ◌+◌, ◌-◌, ◌*◌, ◌%◌, ◌^◌, min, Bool, cond, not, ◌&&◌, ◌||◌, List, [], ◌∷◌, length, take, drop, ◌==◌, nat_le, nat_lt, slice_index}
use Rattle.std.specs.List.{fold, prefix_len}
use Rattle.wire.specs.Text.{same, all}

-- ---- words

abbrev pub is_space : ℕ → Bool
is_space b = b == 32

-- any byte but one
abbrev pub other : ℕ → ℕ → Bool
other stop b = not (b == stop)

abbrev pub no_space : ℕ → Bool
no_space = other 32

-- where the word at a place or after it begins, and where the one at a place ends
abbrev pub start_from : List ℕ → ℕ → ℕ
start_from line at = at + prefix_len is_space (drop at line)

abbrev pub end_from : List ℕ → ℕ → ℕ
end_from line at = at + prefix_len no_space (drop at line)

-- where the first k words have ended
unfoldable pub ended : List ℕ → ℕ → ℕ
ended line zero = 0
ended line (suc k) = end_from line (start_from line (ended line k))

-- word k, from 0
abbrev pub word_of : List ℕ → ℕ → List ℕ
word_of line k = take (prefix_len no_space (drop (start_from line (ended line k)) line)) (drop (start_from line (ended line k)) line)

-- ---- numbers

-- one of the digits 0 to 9, in ASCII
abbrev pub is_digit : ℕ → Bool
is_digit b = nat_le 48 b && nat_le b 57

-- its value; 0 of any other byte
abbrev pub digit_of : ℕ → ℕ
digit_of b = cond (is_digit b) (b - 48) 0

-- n and one digit more, at most the greatest that 64 bits hold
abbrev pub with_digit : ℕ → ℕ → ℕ
with_digit n b = min (n * 10 + digit_of b) 18446744073709551615

abbrev pub number_of : List ℕ → ℕ
number_of text = fold with_digit 0 text

-- digits, and nothing else
abbrev pub is_number : List ℕ → Bool
is_number text = nat_lt 0 (length text) && all is_digit text

-- a minus sign in front
abbrev pub negative : List ℕ → Bool
negative word = slice_index word 0 == 45

-- a number from 0 to `most`
abbrev pub is_unsigned : List ℕ → ℕ → Bool
is_unsigned word most = is_number word && nat_le (number_of word) most

-- 18446744073709551615 in ASCII
abbrev pub greatest : List ℕ
greatest =
    49 ∷ 56 ∷ 52 ∷ 52 ∷ 54 ∷ 55 ∷ 52 ∷ 52 ∷ 48 ∷ 55 ∷ 51 ∷ 55 ∷ 48 ∷ 57 ∷ 53 ∷ 53 ∷ 49 ∷ 54 ∷ 49 ∷ 53 ∷ []

-- one that 64 bits hold: `number_of` has the greatest one for every number over it
abbrev pub is_size : List ℕ → Bool
is_size word = is_unsigned word 18446744073709551614 || same word greatest

-- one from -1 - `most` to `most`
abbrev pub is_signed : List ℕ → ℕ → Bool
is_signed word most = cond (negative word) (is_number (drop 1 word) && nat_le (number_of (drop 1 word) - 1) most) (is_unsigned word most)

-- a clock; below 0 the greatest one, which is out of range too
abbrev pub clock_of : List ℕ → ℕ
clock_of word = cond (negative word) 18446744073709551615 (number_of word)

-- a signed number's 64-bit word, two's complement
abbrev pub signed_word : List ℕ → ℕ
signed_word word = cond (negative word) ((2 ^ 64 - number_of (drop 1 word)) % 2 ^ 64) (number_of word)
