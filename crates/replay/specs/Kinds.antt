-- The library's numbers for what words and letters name. Assumes nothing.
use Rattle.std.specs.Prelude.{ℕ, cond, not, ◌||◌, List, [], ◌∷◌, length, drop, ◌==◌, slice_index}
use Rattle.wire.specs.Text.{same}

-- a field's kind, i16, u16, i32 or pair in ASCII; 4 of any other word
abbrev pub field_kind : List ℕ → ℕ
field_kind word =
    cond (same word (105 ∷ 49 ∷ 54 ∷ [])) 0
    (cond (same word (117 ∷ 49 ∷ 54 ∷ [])) 1
    (cond (same word (105 ∷ 51 ∷ 50 ∷ [])) 2
    (cond (same word (112 ∷ 97 ∷ 105 ∷ 114 ∷ [])) 3
    4)))

-- a scheme, H, F or C, P: or L: and eight bytes; 5 of any other word
abbrev pub scheme_number : List ℕ → ℕ
scheme_number word =
    cond (same word (72 ∷ [])) 0
    (cond (same word (70 ∷ [])) 1
    (cond (same word (67 ∷ [])) 4
    (cond (not (length word == 10) || not (slice_index word 1 == 58)) 5
    (cond (slice_index word 0 == 80) 2
    (cond (slice_index word 0 == 76) 3
    5)))))

-- the eight bytes of P: or L:
abbrev pub parameter_of : List ℕ → List ℕ
parameter_of word = cond (length word == 10) (drop 2 word) []

-- an XDR item, i, u, f, s, a or l; 6 of any other byte
abbrev pub item_number : ℕ → ℕ
item_number b =
    cond (b == 105) 0
    (cond (b == 117) 1
    (cond (b == 102) 2
    (cond (b == 115) 3
    (cond (b == 97) 4
    (cond (b == 108) 5
    6)))))
