-- A part of a lent buffer, `&mut buf[a..a + k]`, that comes back with ys in it; and a loop that lays a list over a buffer part by part,
-- for elements of any type. Assumes nothing.
use mathlib.Core.Path.{◌≡◌, refl, sym, ap, ◌∙◌}
use mathlib.Core.List.{List, [], ◌∷◌, ◌++◌, append_assoc}
use Prim.Native.Nat.{ℕ, ◌+◌, ◌-◌, ◌≤◌, ◌<◌}
use native.Mathlib.Nat.{add-zero, zero-add}
use native.Mathlib.Numerals.{add-one}
use native.Mathlib.Omega.{arith}
use lib.ListN.{length, take, drop, set, length-append, length-drop, take-append-drop}
use lib.Seq.{take_at, drop_at, length-take-le, drop-drop, set_split}
use borrow.Rule.Slice.PartMut.{put_mid}

-- a part of a row is replaced by a list as long: what stands before the part's end, and what stands after it
module _ {A : Type 0} (row ys : List A) (a k : ℕ) (inside : a + k ≤ length row) (long : length ys ≡ k) where
  head_long : length (take a row ++ ys) ≡ a + k
  head_long = length-append (take a row) ys ∙ omega (arith, long, length-take-le a row (omega arith))

  pub part_take : take (a + k) (put_mid a (a + k - a) row ys) ≡ take a row ++ ys
  part_take = rw (← (append_assoc (take a row) ys (drop (a + k - a) (drop a row)))) (take_at (take a row ++ ys) _ (a + k) head_long)

  pub part_drop : drop (a + k) (put_mid a (a + k - a) row ys) ≡ drop k (drop a row)
  part_drop =
      let e : a + k - a ≡ k = omega arith in
      rw (← (append_assoc (take a row) ys (drop (a + k - a) (drop a row)))) (drop_at (take a row ++ ys) _ (a + k) head_long ∙ rw e)

  pub part_long : length (put_mid a (a + k - a) row ys) ≡ length row
  part_long =
      length-append (take a row) (ys ++ drop (a + k - a) (drop a row))
      ∙ omega (arith, long, length-append ys (drop (a + k - a) (drop a row)), length-drop (a + k - a) (drop a row), length-drop a row, length-take-le a row (omega arith))

-- The invariant of a walk that writes: `left` is still to be laid from `at` on, and what is there then is the whole
pub record Laid {A : Type 0} (whole : List A) (n : ℕ) (buf left : List A) (at : ℕ) : Type 0 where
  pub long : length buf ≡ n
  pub room : at + length left ≤ n
  pub known : whole ≡ take at buf ++ (left ++ drop (at + length left) buf)

module _ {A : Type 0} where
  pub laid_first : (left buf : List A) (m : ℕ) → length left ≡ m → m ≤ length buf → Laid (left ++ drop m buf) (length buf) buf left 0
  laid_first left buf m e h = record { long = refl; room = omega (arith, e); known = rw (zero-add, e) }

  pub laid_end : {whole : List A} {n : ℕ} {buf : List A} {at : ℕ} → Laid whole n buf [] at → buf ≡ whole
  laid_end {buf = buf} {at = at} inv = sym (inv.known ∙ rw add-zero (take-append-drop at buf))

  -- the next part is written
  pub laid_put : {whole : List A} {n : ℕ} {buf : List A} {at : ℕ} (row rest ys : List A) (k : ℕ) → Laid whole n buf (row ++ rest) at → length row ≡ k → ys ≡ row
      → Laid whole n (put_mid at (at + k - at) buf ys) rest (at + k)
  laid_put {whole} {n} {buf} {at} row rest ys k inv e same =
      let fits : at + k ≤ length buf = omega (arith, inv.long, inv.room, length-append row rest, e) in
      let long : length ys ≡ k = ap length same ∙ e in
      let sum : at + length (row ++ rest) ≡ at + (k + length rest) = omega (arith, length-append row rest, e) in
      record {
        long = part_long buf ys at k fits long ∙ inv.long;
        room = omega (arith, inv.room, length-append row rest, e);
        known =
            inv.known
            ∙ rw (
              part_take buf ys at k fits long,
              ← (drop-drop (length rest) (at + k) (put_mid at (at + k - at) buf ys)),
              part_drop buf ys at k fits long,
              drop-drop (length rest) k (drop at buf),
              drop-drop (k + length rest) at buf,
              sum,
              same,
            )
            (simp append_assoc);
      }

  set_put : (buf : List A) (at : ℕ) (v : A) → at < length buf → set buf at v ≡ put_mid at (at + 1 - at) buf (v ∷ [])
  set_put buf at v h =
      let e : at + 1 - at ≡ 1 = omega arith in
      set_split buf at v h ∙ rw (e, drop-drop 1 at buf, add-one)

  -- the next element is stored
  pub laid_set : {whole : List A} {n : ℕ} {buf : List A} {at : ℕ} (v : A) (rest : List A) (x : A) → Laid whole n buf (v ∷ rest) at → x ≡ v
      → Laid whole n (set buf at x) rest (at + 1)
  laid_set {buf = buf} {at = at} v rest x inv same =
      rw (same, set_put buf at v (omega (arith, inv.long, inv.room))) (laid_put (v ∷ []) rest (v ∷ []) 1 inv refl refl)
