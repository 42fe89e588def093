-- The numbers of a list, with a comma between two; `-` is none. Assumes nothing.
use Rattle.std.specs.Prelude.{ℕ, zero, suc, ◌+◌, min, Bool, false, cond, ◌&&◌, ◌||◌, List, [], ◌∷◌, map, length, take, drop, ◌==◌, nat_le}
use Rattle.std.specs.List.{prefix_len, slice_split}
use Rattle.wire.specs.Text.{same}
use Rattle.replay.specs.Words.{other, number_of, is_size}

abbrev pub no_comma : ℕ → Bool
no_comma = other 44

-- the first piece, whether it is the only one, and what stands after its comma
abbrev pub piece_of : List ℕ → List ℕ
piece_of word = take (prefix_len no_comma word) word

abbrev pub is_last : List ℕ → Bool
is_last word = prefix_len no_comma word == length word

abbrev pub rest_of : List ℕ → List ℕ
rest_of word = drop (prefix_len no_comma word + 1) word

-- a number from 0 to `most`
abbrev pub is_entry : ℕ → List ℕ → Bool
is_entry most piece = is_size piece && nat_le (number_of piece) most

-- one to n of them
unfoldable pub are_entries : ℕ → ℕ → List ℕ → Bool
are_entries most zero word = false
are_entries most (suc n) word = is_entry most (piece_of word) && (is_last word || are_entries most n (rest_of word))

-- `-`
abbrev pub is_none : List ℕ → Bool
is_none word = same word (45 ∷ [])

-- none, or one to 4,096
unfoldable pub is_list : List ℕ → ℕ → Bool
is_list word most = is_none word || are_entries most 4096 word

-- what stands before, between and behind the commas
abbrev pub pieces : List ℕ → List (List ℕ)
pieces = slice_split (λ b. b == 44)

-- all of them
abbrev pub list_of : List ℕ → List ℕ
list_of word = cond (is_none word) [] (map number_of (pieces word))

-- the first n of them
unfoldable pub entries : ℕ → List ℕ → List ℕ
entries zero word = []
entries (suc n) word = number_of (piece_of word) ∷ cond (is_last word) [] (entries n (rest_of word))

unfoldable pub list_in : ℕ → List ℕ → List ℕ
list_in n word = cond (is_none word) [] (entries n word)

-- all of them, each at most what 32 bits hold
abbrev pub rates_of : List ℕ → List ℕ
rates_of word = map (λ n. min n 4294967295) (list_of word)
