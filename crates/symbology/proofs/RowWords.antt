-- The integers of a list of bytes, four bytes to each: how many there are, and where each stands. Assumes nothing.
use Rattle.std.proofs.Common.{◌≡◌, ℕ, zero, suc, ◌+◌, ◌*◌, ◌/◌, ◌≤◌, List, [], ◌∷◌, map, length, get_or, refl, ap₂, arith}
use Rattle.std.specs.Int.{w32, from_be_bytes}
use Rattle.std.specs.Simd.{first_chunks}
use Rattle.wire.specs.Bytes.{u16_at, u32_at}
use Rattle.symbology.specs.Rows.{words}

abbrev four : ℕ → ℕ
four n = suc (suc (suc (suc n)))

-- four bytes to an integer; a rest of fewer than four makes none
pub words_length : (s : List ℕ) → length (words s) ≡ length s / 4
unfolding words
words_length [] = refl
words_length (a ∷ []) = refl
words_length (a ∷ b ∷ []) = refl
words_length (a ∷ b ∷ c ∷ []) = refl
words_length (a ∷ b ∷ c ∷ d ∷ s) = omega (arith, words_length s)

-- integer k stands at byte 4 × k
pub words_at : (s : List ℕ) (k : ℕ) → k * 4 + 4 ≤ length s → get_or (words s) k 0 ≡ u32_at s (k * 4)
unfolding words u32_at u16_at
words_at [] k h = absurd (omega arith)
words_at (a ∷ []) k h = absurd (omega arith)
words_at (a ∷ b ∷ []) k h = absurd (omega arith)
words_at (a ∷ b ∷ c ∷ []) k h = absurd (omega arith)
words_at (a ∷ b ∷ c ∷ d ∷ s) zero h = refl
words_at (a ∷ b ∷ c ∷ d ∷ s) (suc k) h =
    let first : suc k * 4 ≡ four (k * 4) = omega arith in
    let second : suc k * 4 + 1 ≡ four (k * 4 + 1) = omega arith in
    let third : suc k * 4 + 2 ≡ four (k * 4 + 2) = omega arith in
    let fourth : suc k * 4 + 2 + 1 ≡ four (k * 4 + 2 + 1) = omega arith in
    rw (fourth, third, second, first) (words_at s k (omega arith))

-- the bytes of each, four at a time
pub words_are : (s : List ℕ) → map (from_be_bytes w32) (first_chunks 4 (length s / 4) s) ≡ words s
unfolding words
words_are [] = refl
words_are (a ∷ []) = refl
words_are (a ∷ b ∷ []) = refl
words_are (a ∷ b ∷ c ∷ []) = refl
words_are (a ∷ b ∷ c ∷ d ∷ s) =
    let n : length (a ∷ b ∷ c ∷ d ∷ s) / 4 ≡ suc (length s / 4) = omega arith in
    rw n (ap₂ ◌∷◌ (omega arith) (words_are s))
