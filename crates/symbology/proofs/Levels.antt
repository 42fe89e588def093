-- A packet 28 row in document 01's words: each integer, as XDR has it, is from 0 to 65,535, and these in order are the codes. Assumes nothing.
use Rattle.std.proofs.Common.{◌≡◌, ℕ, suc, ◌+◌, ◌-◌, ◌*◌, ◌<◌, ◌≤◌, Bool, true, false, leb, List, [], ◌∷◌, length, get_or, pos, negsuc, sym, refl, ap, ◌∙◌, zero-add, arith, le-ltb, lt-ltb, le-leb, leb-false, leb-true}
use mathlib.Core.Bool.{false≢true}
use lib.Signed.{le_z}
use borrow.Author.Tests.{lt-leb}
use Rattle.wire.specs.Bytes.{u16_at, u32_at, i32_at, signed}
use Rattle.wire.specs.Refusal.{kind, nat, whole}
use Rattle.wire.specs.Result.{accepted, refused}
use Rattle.wire.specs.Text.{all}
use Rattle.symbology.specs.Rows.{words, is_level, row28, row_of, codes_of}
use Rattle.symbology.specs.Levels.{integer, InRange, RowOfLevels}
use Rattle.symbology.specs.declared.figures.Packet.TheVariants.{Packet28}
use Rattle.symbology.proofs.RowWords.{words_length, words_at}
use Rattle.wire.proofs.Every.{all_of, first_not}
use Rattle.symbology.proofs.FirstBad.{each_level, levels_are}
use Rattle.symbology.proofs.FullRow.{row_made}

-- ---- two's complement

pub signed_low : (half n : ℕ) → n < half → signed half n ≡ pos n
unfolding signed
signed_low half n h = simp (lt-ltb n half h)

pub signed_high : (half top n : ℕ) → half + half ≡ suc top → half ≤ n → n < suc top → signed half n ≡ negsuc (suc top - suc n)
unfolding signed
signed_high half top n e h k = rw e (simp (le-ltb n half h, lt-ltb n (suc top) k))

-- an integer from 0 to 65,535 is a level
ranged_level : (v : ℕ) → v < 4294967296 → le_z (pos 0) (signed 2147483648 v) ≡ true → le_z (signed 2147483648 v) (pos 65535) ≡ true → v ≤ 65535
ranged_level v small low high = go (leb v 2147483647) refl
  where
    go : (b : Bool) → leb v 2147483647 ≡ b → v ≤ 65535
    go true e = leb-true v 65535 (rw (signed_low 2147483648 v (omega (arith, leb-true v 2147483647 e))) at high)
    go false e = absurd (false≢true (rw (signed_high 2147483648 4294967295 v refl (omega (arith, leb-false v 2147483647 e)) small) at low))

-- four bytes make less than 2³²
pub u32_small : (bytes : List ℕ) (i : ℕ) → ((i : ℕ) → get_or bytes i 0 < 256) → u32_at bytes i < 4294967296
unfolding u32_at u16_at
u32_small bytes i h = omega (arith, h i, h (i + 1), h (i + 2), h (i + 2 + 1))

module _ (bins radial : ℕ) (bytes : List ℕ) (long : length bytes ≡ bins * 4) (small : (i : ℕ) → get_or bytes i 0 < 256) where
  size : length (words bytes) ≡ bins
  size = omega (arith, words_length bytes)

  here : (k : ℕ) → k < bins → get_or (words bytes) k 0 ≡ u32_at bytes (k * 4)
  here k h = words_at bytes k (omega arith)

  level : (k : ℕ) → k < bins → InRange bytes k → get_or (words bytes) k 0 ≤ 65535
  unfolding i32_at
  level k h (low, high) = rw (here k h) (ranged_level (u32_at bytes (k * 4)) (u32_small bytes (k * 4) small) low high)

  value : (k : ℕ) → k < bins → get_or (words bytes) k 0 ≤ 65535 → integer bytes k ≡ pos (get_or (words bytes) k 0)
  unfolding i32_at
  value k h l = rw (here k h) (signed_low 2147483648 (u32_at bytes (k * 4)) (omega (arith, here k h)))

  in_range : (k : ℕ) → k < bins → get_or (words bytes) k 0 ≤ 65535 → InRange bytes k
  in_range k h l = rw (value k h l) (le-leb 0 (get_or (words bytes) k 0) (omega arith), le-leb (get_or (words bytes) k 0) 65535 l)

  made : (codes : List ℕ) → row28 bins radial bytes ≡ accepted codes → (all is_level (words bytes) ≡ true) × (codes ≡ words bytes)
  unfolding row_of codes_of
  made codes e = row_made Packet28 bins radial bytes codes e

  pub row_of_levels : RowOfLevels bins radial bytes
  unfolding row28 i32_at
  row_of_levels =
      record {
        row = (λ (codes, e) k h. in_range k h (each_level (words bytes) k (made codes e).0), λ each. (words bytes, back each));
        codes = λ codes e. (ap length (made codes e).1 ∙ size, λ k h. rw (made codes e).1 (sym (value k h (each_level (words bytes) k (made codes e).0))));
        first = stop;
      }
    where
      back : ((k : ℕ) → k < bins → InRange bytes k) → row28 bins radial bytes ≡ accepted (words bytes)
      back each = levels_are radial 0 (words bytes) ∙ simp (all_of is_level (words bytes) (λ k h. le-leb _ _ (level k (omega (arith, size)) (each k (omega (arith, size))))))

      stop : (k : ℕ) → k < bins → ((j : ℕ) → j < k → InRange bytes j) → ¬ (InRange bytes k)
          → row28 bins radial bytes ≡ refused (kind 34 (nat radial ∷ nat k ∷ whole (integer bytes k) ∷ []))
      stop k h before not =
          let bad : is_level (get_or (words bytes) k 0) ≡ false = lt-leb _ _ (over (leb (get_or (words bytes) k 0) 65535) refl) in
          let f = first_not is_level (words bytes) k (omega (arith, size)) (λ j l. le-leb _ _ (level j (omega arith) (before j l))) bad in
          levels_are radial 0 (words bytes) ∙ simp (f.1, f.0, zero-add, here k h)
        where
          over : (b : Bool) → leb (get_or (words bytes) k 0) 65535 ≡ b → 65535 < get_or (words bytes) k 0
          over true e = absurd (not (in_range k h (leb-true _ _ e)))
          over false e = leb-false _ _ e
