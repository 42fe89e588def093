-- legacy16.rs: level k has its flag at byte 2k and its value at 2k + 1.
use Rattle.std.specs.Prelude.{ℕ, ◌+◌, ◌*◌, ◌/◌, ◌%◌, List, [], ◌∷◌, map, Bool, cond, get_or, pos, eqb, Float}
use Rattle.std.specs.Float.{nan}
use Rattle.std.specs.Float.Ieee.{neg}
use Rattle.wire.specs.Float.{f32, whole32, ◌⊗◌, ◌⊘◌}

-- whether the flag has the bit of weight w
abbrev pub has : ℕ → ℕ → Bool
has flag w = eqb (flag / w % 2) 1

-- 0x01: minus
abbrev pub sign_of : ℕ → Float
sign_of flag = cond (has flag 0x01) (neg (f32 1 1)) (f32 1 1)

-- hundredth (0x40) beats tenth (0x10) beats twentieth (0x20)
abbrev pub scale_of : ℕ → Float
scale_of flag =
    cond (has flag 0x40) (f32 1 1 ⊘ f32 100 1)
    (cond (has flag 0x10) (f32 1 1 ⊘ f32 10 1)
    (cond (has flag 0x20) (f32 1 1 ⊘ f32 20 1) (f32 1 1)))

-- 0x80: NaN; else value × sign × scale × post-scale
abbrev pub legacy_level : ℕ → ℕ → Float → Float
legacy_level flag value post = cond (has flag 0x80) nan (whole32 (pos value) ⊗ sign_of flag ⊗ scale_of flag ⊗ post)

-- level k of the bytes of t from place `at` on
unfoldable pub level_at : List ℕ → ℕ → Float → ℕ → Float
level_at t at post k = legacy_level (get_or t (at + 2 * k) 0) (get_or t (at + 2 * k + 1) 0) post

abbrev pub sixteen : List ℕ
sixteen = 0 ∷ 1 ∷ 2 ∷ 3 ∷ 4 ∷ 5 ∷ 6 ∷ 7 ∷ 8 ∷ 9 ∷ 10 ∷ 11 ∷ 12 ∷ 13 ∷ 14 ∷ 15 ∷ []

-- the same before the post-scale
abbrev pub unscaled_level : ℕ → ℕ → Float
unscaled_level flag value = cond (has flag 0x80) nan (whole32 (pos value) ⊗ sign_of flag ⊗ scale_of flag)

unfoldable pub unscaled_at : List ℕ → ℕ → ℕ → Float
unscaled_at t at k = unscaled_level (get_or t (at + 2 * k) 0) (get_or t (at + 2 * k + 1) 0)

-- the sixteen levels
unfoldable pub levels_of : List ℕ → ℕ → Float → List Float
levels_of t at post = map (level_at t at post) sixteen

unfoldable pub unscaled_levels : List ℕ → ℕ → List Float
unscaled_levels t at = map (unscaled_at t at) sixteen
