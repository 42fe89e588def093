-- A digit as it is printed is read as what it stands for. Assumes nothing.
use Rattle.std.proofs.Common.{◌≡◌, [], ◌∷◌, map, false, refl}
use Rattle.std.specs.Fmt.{digit_glyph}
use Rattle.replay.specs.Hex.{digit_value}

pub printed_is_read :
    map (λ d. digit_value (digit_glyph false d)) (0 ∷ 1 ∷ 2 ∷ 3 ∷ 4 ∷ 5 ∷ 6 ∷ 7 ∷ 8 ∷ 9 ∷ 10 ∷ 11 ∷ 12 ∷ 13 ∷ 14 ∷ 15 ∷ [])
    ≡ (0 ∷ 1 ∷ 2 ∷ 3 ∷ 4 ∷ 5 ∷ 6 ∷ 7 ∷ 8 ∷ 9 ∷ 10 ∷ 11 ∷ 12 ∷ 13 ∷ 14 ∷ 15 ∷ [])
printed_is_read = refl
