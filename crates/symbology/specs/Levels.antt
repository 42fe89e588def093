-- A packet 28 row in document 01's own words: "every integer is from 0 to 65,535, and these in order are the codes".
use Rattle.std.specs.Prelude.{◌≡◌, ℕ, ◌*◌, ◌<◌, true, ◌↔◌, List, [], ◌∷◌, length, ℤ, pos, int_le, slice_index}
use Rattle.wire.specs.Bytes.{i32_at}
use Rattle.wire.specs.Refusal.{kind, nat, whole}
use Rattle.wire.specs.Result.{accepted, refused}
use Rattle.symbology.specs.Rows.{row28}

-- integer k of the array's body, as XDR has it: signed, four bytes
abbrev pub integer : List ℕ → ℕ → ℤ
integer bytes k = i32_at bytes (k * 4)

-- integer k is from 0 to 65,535
abbrev pub InRange : List ℕ → ℕ → Type 0
InRange bytes k = (int_le (pos 0) (integer bytes k) ≡ true) × (int_le (integer bytes k) (pos 65535) ≡ true)

pub record RowOfLevels (bins radial : ℕ) (bytes : List ℕ) : Type 0 where
  -- a row exactly if every integer is from 0 to 65,535
  pub row : ((codes : List ℕ) × (row28 bins radial bytes ≡ accepted codes)) ↔ ((k : ℕ) → k < bins → InRange bytes k)
  -- and these in order are the codes
  pub codes : (codes : List ℕ) → row28 bins radial bytes ≡ accepted codes → (length codes ≡ bins) × ((k : ℕ) → k < bins → pos (slice_index codes k) ≡ integer bytes k)
  -- else 34 names the first that is not, with its value
  pub first : (k : ℕ) → k < bins → ((j : ℕ) → j < k → InRange bytes j) → ¬ (InRange bytes k)
      → row28 bins radial bytes ≡ refused (kind 34 (nat radial ∷ nat k ∷ whole (integer bytes k) ∷ []))
