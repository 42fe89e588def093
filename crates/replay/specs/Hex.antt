-- What hexadecimal words spell. Assumes nothing.
use Rattle.std.specs.Prelude.{ℕ, ◌+◌, ◌-◌, ◌*◌, ◌/◌, ◌%◌, min, Bool, cond, ◌&&◌, ◌||◌, List, [], ◌∷◌, length, take, ◌==◌, from_bits, nat_le, nat_lt, Float}
use Rattle.std.specs.Float.{binary32}
use Rattle.wire.specs.Text.{same, all}
use Rattle.std.specs.List.{fold}

-- the value of a digit, `0` to `9`, `A` to `F`, `a` to `f`; 16 of any other byte
abbrev pub digit_value : ℕ → ℕ
digit_value b =
    cond (nat_lt b 48) 16
    (cond (nat_lt b 58) (b - 48)
    (cond (nat_lt b 65) 16
    (cond (nat_lt b 71) (b - 55)
    (cond (nat_lt b 97) 16
    (cond (nat_lt b 103) (b - 87) 16)))))

abbrev pub is_hex : ℕ → Bool
is_hex b = nat_lt (digit_value b) 16

-- the byte of two digits
abbrev pub byte_of : ℕ → ℕ → ℕ
byte_of high low = digit_value high % 16 * 16 + digit_value low % 16

-- the bytes that a word spells: none that a single digit would end
abbrev pub bytes_of : List ℕ → List ℕ
bytes_of [] = []
bytes_of (b ∷ []) = []
bytes_of (high ∷ low ∷ rest) = byte_of high low ∷ bytes_of rest

-- those for which there is room
unfoldable pub bytes_in : ℕ → List ℕ → List ℕ
bytes_in n word = take (min (length word / 2) n) (bytes_of word)

-- `-`, or two digits for each of 1 to 32,768 bytes
abbrev pub is_bytes : List ℕ → Bool
is_bytes word = same word (45 ∷ []) || (nat_lt 0 (length word) && length word % 2 == 0 && nat_le (length word) 65536 && all is_hex word)

-- eight digits
abbrev pub is_float : List ℕ → Bool
is_float word = length word == 8 && all is_hex word

-- the number of the last eight digits
abbrev pub bits_of : List ℕ → ℕ
bits_of word = fold (λ n b. n % 268435456 * 16 + digit_value b % 16) 0 word

abbrev pub float_of : List ℕ → Float
float_of word = from_bits binary32 (bits_of word)
