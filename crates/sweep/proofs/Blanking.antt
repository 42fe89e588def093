-- The loops that lay NaN over rows. Assumes nothing.
use Prim.Native.Nat.{ℕ, zero, suc, ◌+◌, ◌-◌, ◌*◌, ◌≤◌, ◌<◌}
use native.Mathlib.Nat.{suc-mul, zero-add}
use native.Mathlib.Numerals.{add-one}
use native.Mathlib.Omega.{arith}
use mathlib.Core.List.{List, [], ◌∷◌, ◌++◌, append_assoc}
use mathlib.Core.Path.{◌≡◌, refl, sym, ap, ap₂, ◌∙◌}
use lib.ListN.{length, get_or, take, drop, replicate, length-drop, length-append, length-replicate, take-append-drop, drop_of_length-le}
use lib.Seq.{drop-cons, length-take-le, take-append-le, drop-append-le}
use lib.Ieee.{Float, nan}
use borrow.Rule.Slice.PartMut.{put_mid, mid_of}
use Rattle.wire.proofs.Parts.{part_take, part_drop, part_long}
use Rattle.sweep.specs.GapSweep.{blanked, blanked_row}

-- ---- all rows

module _ (bins : ℕ) (marks : List ℕ) where
  -- What is left, blanked, is the whole.
  pub record Blanked (first row : List Float) (cell r : ℕ) : Type 0 where
    pub number : r ≤ length marks
    pub long : length row ≡ length first
    pub room : cell + length (drop r marks) * bins ≤ length row
    pub known : take cell row ++ blanked bins (drop r marks) (drop cell row) ≡ blanked bins marks first

  pub blanked_first : (row : List Float) → length marks * bins ≤ length row → Blanked row row 0 0
  blanked_first row h = record { number = omega arith; long = refl; room = rw zero-add h; known = refl }

  module _ {first row : List Float} {cell r : ℕ} (inv : Blanked first row cell r) where
    module _ (more : r < length marks) where
      rest : length (drop r marks) ≡ suc (length (drop (suc r) marks))
      rest = omega (arith, length-drop r marks, length-drop (suc r) marks)

      pub blanked_room : cell + bins ≤ length row
      blanked_room =
          let e : length (drop r marks) * bins ≡ length (drop (suc r) marks) * bins + bins = rw rest (suc-mul _ bins) in
          omega (arith, inv.room, e)

      next_room : cell + bins + length (drop (suc r) marks) * bins ≤ length row
      next_room =
          let e : length (drop r marks) * bins ≡ length (drop (suc r) marks) * bins + bins = rw rest (suc-mul _ bins) in
          omega (arith, inv.room, e)

      -- the next row
      pub blanked_part : length (mid_of cell (cell + bins - cell) row) ≡ bins
      blanked_part =
          let s : cell + bins - cell ≡ bins = omega arith in
          rw s (length-take-le bins (drop cell row) (omega (arith, blanked_room, length-drop cell row)))

      pub blanked_turn : {ys : List Float} → ys ≡ blanked_row (get_or marks r 0) (mid_of cell (cell + bins - cell) row)
          → Blanked first (put_mid cell (cell + bins - cell) row ys) (cell + bins) (r + 1)
      unfolding blanked blanked_row
      blanked_turn {ys} e = by (get_or marks r 0) refl e
        where
          laid : (zs : List Float) (x : ℕ) → get_or marks r 0 ≡ x → ys ≡ zs → length zs ≡ bins
              → (blanked bins (x ∷ drop (suc r) marks) (drop cell row) ≡ zs ++ blanked bins (drop (suc r) marks) (drop bins (drop cell row)))
              → Blanked first (put_mid cell (cell + bins - cell) row ys) (cell + bins) (r + 1)
          laid zs x h is len step =
              let d : drop r marks ≡ x ∷ drop (suc r) marks = drop-cons marks r 0 more ∙ ap (λ z. z ∷ drop (suc r) marks) h in
              let k : take cell row ++ (zs ++ blanked bins (drop (suc r) marks) (drop bins (drop cell row))) ≡ blanked bins marks first =
              ap (λ (z : List Float). take cell row ++ z) (sym step) ∙ (rw d at inv.known) in
              let long : length ys ≡ bins = ap length is ∙ len in
              let l : length (put_mid cell (cell + bins - cell) row ys) ≡ length row = part_long row ys cell bins blanked_room long in
              record {
                number = omega arith;
                long = l ∙ inv.long;
                room = rw (add-one r, l) next_room;
                known =
                    rw (add-one r)
                    (ap₂ (λ (x y : List Float). x ++ blanked bins (drop (suc r) marks) y) (part_take row ys cell bins blanked_room long ∙ ap (λ (z : List Float). take cell row ++ z) is) (part_drop row ys cell bins blanked_room long)
                    ∙ append_assoc (take cell row) zs _ ∙ k);
              }

          by : (x : ℕ) → get_or marks r 0 ≡ x → ys ≡ blanked_row x (mid_of cell (cell + bins - cell) row) → Blanked first (put_mid cell (cell + bins - cell) row ys) (cell + bins) (r + 1)
          by zero h z =
              let s : cell + bins - cell ≡ bins = omega arith in
              laid (take bins (drop cell row)) 0 h (rw s at z) (rw s at blanked_part) refl
          by (suc x) h z = laid (replicate bins nan) (suc x) h (rw blanked_part at z) (length-replicate bins nan) refl

    pub blanked_end : length marks ≤ r → row ≡ blanked bins marks first
    unfolding blanked
    blanked_end h =
        let d : drop r marks ≡ [] = drop_of_length-le marks h in
        let k : take cell row ++ drop cell row ≡ blanked bins marks first = rw d at inv.known in
        sym (take-append-drop cell row) ∙ k

-- ---- the front of a buffer

pub blanked_long : (bins : ℕ) (marks : List ℕ) (values : List Float) → length values ≡ length marks * bins → length (blanked bins marks values) ≡ length values
unfolding blanked
blanked_long bins [] values e = refl
blanked_long bins (zero ∷ marks) values e =
    let s : length values ≡ length marks * bins + bins = e ∙ suc-mul (length marks) bins in
    let d : length (drop bins values) ≡ length marks * bins = omega (arith, s, length-drop bins values) in
    omega (arith, s, length-append (take bins values) (blanked bins marks (drop bins values)), length-take-le bins values (omega (arith, s)), blanked_long bins marks (drop bins values) d, d)
blanked_long bins (suc m ∷ marks) values e =
    let s : length values ≡ length marks * bins + bins = e ∙ suc-mul (length marks) bins in
    let d : length (drop bins values) ≡ length marks * bins = omega (arith, s, length-drop bins values) in
    omega (arith, s, length-append (replicate bins nan) (blanked bins marks (drop bins values)), length-replicate bins nan, blanked_long bins marks (drop bins values) d, d)

blanked_front : (bins : ℕ) (marks : List ℕ) (values rest : List Float) → length values ≡ length marks * bins
    → blanked bins marks (values ++ rest) ≡ blanked bins marks values ++ rest
unfolding blanked
blanked_front bins [] values rest e = refl
blanked_front bins (zero ∷ marks) values rest e =
    let s : length values ≡ length marks * bins + bins = e ∙ suc-mul (length marks) bins in
    let d : length (drop bins values) ≡ length marks * bins = omega (arith, s, length-drop bins values) in
    let o : bins ≤ length values = omega (arith, s) in
    rw (take-append-le bins values rest o, drop-append-le bins values rest o, blanked_front bins marks (drop bins values) rest d) (sym (append_assoc (take bins values) _ rest))
blanked_front bins (suc m ∷ marks) values rest e =
    let s : length values ≡ length marks * bins + bins = e ∙ suc-mul (length marks) bins in
    let d : length (drop bins values) ≡ length marks * bins = omega (arith, s, length-drop bins values) in
    let o : bins ≤ length values = omega (arith, s) in
    rw (drop-append-le bins values rest o, blanked_front bins marks (drop bins values) rest d) (sym (append_assoc (replicate bins nan) _ rest))

-- a lent buffer whose front is blanked
pub blanked_lent_lem : (bins : ℕ) (marks : List ℕ) (values old : List Float) → length values ≡ length marks * bins
    → blanked bins marks (values ++ drop (length values) old) ≡ blanked bins marks values ++ drop (length (blanked bins marks values)) old
blanked_lent_lem bins marks values old e =
    blanked_front bins marks values (drop (length values) old) e ∙ ap (λ (k : ℕ). blanked bins marks values ++ drop k old) (sym (blanked_long bins marks values e))

-- ---- one row, marked or not
