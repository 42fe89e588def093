-- Bytes put together with the first as the lowest, and what that says of the number that they stand for. Assumes nothing.
use Rattle.std.proofs.Common.{◌≡◌, ℕ, zero, suc, ◌+◌, ◌*◌, ◌/◌, ◌%◌, ◌<◌, ◌≤◌, Bool, ◌&&◌, eqb, List, [], ◌∷◌, map, length, get_or, refl, sym, ap, ◌∙◌, arith, ne_eqb, le-leb}
use lib.Bits.{bit_or, and_le_r, or_zero_l, or_add_and, or_mod}
use borrow.Author.Tests.{lt-leb}
use Rattle.std.specs.Int.{w32, from_le_bytes}
use Rattle.std.specs.Simd.{first_chunks}
use Rattle.wire.specs.Bytes.{u16_at}
use Rattle.symbology.specs.Rows.{is_level, words}

-- the two upper bytes are 0
abbrev pub upper_clear : ℕ → Bool
upper_clear n = eqb (n % 65536) 0

-- a number is a level exactly where its two upper bytes are 0
level_bytes : (a b c d : ℕ) → a < 256 → b < 256 → c < 256 → d < 256
    → upper_clear (a + b * 256 + c * 65536 + d * 16777216) ≡ is_level ((a * 256 + b) * 65536 + (c * 256 + d))
level_bytes a b c d ha hb hc hd =
    let low : (a + b * 256 + c * 65536 + d * 16777216) % 65536 ≡ a + b * 256 = omega arith in
    rw low (go (a + b * 256) refl)
  where
    go : (n : ℕ) → a + b * 256 ≡ n → eqb n 0 ≡ is_level ((a * 256 + b) * 65536 + (c * 256 + d))
    go zero e = let h : (a * 256 + b) * 65536 + (c * 256 + d) ≤ 65535 = omega (arith, e, hc, hd) in sym (le-leb _ _ h)
    go (suc n) e = let h : 65535 < (a * 256 + b) * 65536 + (c * 256 + d) = omega (arith, e) in ne_eqb (suc n) 0 (λ q. omega (arith, q)) ∙ sym (lt-leb _ _ h)

-- integer k, of its four bytes
pub low_first : (s : List ℕ) (k : ℕ) → ((i : ℕ) → get_or s i 0 < 256) → k < length s / 4
    → upper_clear (from_le_bytes w32 (get_or (first_chunks 4 (length s / 4) s) k [])) ≡ is_level (get_or (words s) k 0)
unfolding words
low_first [] k small h = absurd (omega arith)
low_first (a ∷ []) k small h = absurd (omega arith)
low_first (a ∷ b ∷ []) k small h = absurd (omega arith)
low_first (a ∷ b ∷ c ∷ []) k small h = absurd (omega arith)
low_first (a ∷ b ∷ c ∷ d ∷ s) zero small h =
    let n : length (a ∷ b ∷ c ∷ d ∷ s) / 4 ≡ suc (length s / 4) = omega arith in
    rw n (level_bytes a b c d (small 0) (small 1) (small 2) (small 3))
low_first (a ∷ b ∷ c ∷ d ∷ s) (suc k) small h =
    let n : length (a ∷ b ∷ c ∷ d ∷ s) / 4 ≡ suc (length s / 4) = omega arith in
    rw n (low_first s k (λ i. small (suc (suc (suc (suc i))))) (omega (arith, n, h)))

-- the two upper bytes of both are 0 exactly if those of their bits put together are
none_set : (a b : ℕ) → eqb (bit_or a b) 0 ≡ eqb a 0 && eqb b 0
none_set zero b = ap (λ (n : ℕ). eqb n 0) (or_zero_l b)
none_set (suc a) b = ne_eqb (bit_or (suc a) b) 0 (λ e. omega (arith, or_add_and (suc a) b, and_le_r (suc a) b, e)) ∙ ap (λ (t : Bool). t && eqb b 0) (sym (ne_eqb (suc a) 0 (λ e. omega (arith, e))))

pub both_clear : (a b : ℕ) → upper_clear (bit_or a b) ≡ upper_clear a && upper_clear b
both_clear a b = ap (λ (n : ℕ). eqb n 0) (or_mod a b 16) ∙ none_set (a % 65536) (b % 65536)

-- ---- halfwords with their bytes in the other order

abbrev pub swap : ℕ → ℕ
swap h = h % 256 * 256 + h / 256

-- the upper half of four bytes is the lower halfword with its bytes in the other order
halves : (a b c d : ℕ) → a < 256 → b < 256 → c < 256 → d < 256
    → ((a + b * 256 + c * 65536 + d * 16777216) / 65536 ≡ swap (c * 256 + d)) × ((a + b * 256 + c * 65536 + d * 16777216) / 65536 < 65536)
halves a b c d ha hb hc hd = (omega arith, omega arith)

pub raw_half : (s : List ℕ) (at : ℕ) {w z : ℕ} → ((i : ℕ) → get_or s i 0 < 256) → z ≡ 0
    → w ≡ get_or s at 0 + get_or s (at + 1) 0 * 256 + get_or s (at + 2) 0 * 65536 + get_or s (at + 3) 0 * 16777216
    → ((w + z) / 65536 ≡ swap (u16_at s (at + 2))) × ((w + z) / 65536 < 65536)
unfolding u16_at
raw_half s at {w} {z} small none h =
    let e : at + 3 ≡ at + 2 + 1 = omega arith in
    let same : w + z ≡ w = omega (arith, none) in
    rw (same, h, e) (halves _ _ _ _ (small at) (small (at + 1)) (small (at + 2)) (small (at + 2 + 1)))

-- swapped twice, a halfword is as it was
pub swap_back : (h : ℕ) → h ≤ 65535 → swap (swap h) ≡ h
swap_back h l = omega arith

pub all_back : (s : List ℕ) → ((i : ℕ) → get_or s i 0 ≤ 65535) → map swap (map swap s) ≡ s
all_back [] h = refl
all_back (x ∷ s) h = rw (swap_back x (h 0), all_back s (λ i. h (suc i)))
